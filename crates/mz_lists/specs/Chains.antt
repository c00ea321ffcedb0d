-- Lists of members that are linked both ways. This project's own.
use Rattle.std.specs.Prelude.{◌≡◌, ◌≢◌, ℕ, ◌<◌, Bool, true, Option, Some}

-- which places have a member, and of each member the next, the one before it, and its list; and the first of each list
pub record Chains : Type 0 where
  pub is_member : ℕ → Bool
  pub next : ℕ → ℕ
  pub prev : ℕ → ℕ
  pub list : ℕ → ℕ
  pub head : ℕ → Option ℕ

-- the members p and q are in one list, one right behind the other
pub record IsBefore (c : Chains) (rank : ℕ → ℕ) (p q : ℕ) : Type 0 where
  pub from : c.is_member p ≡ true
  pub to : c.is_member q ≡ true
  pub same : c.list p ≡ c.list q
  pub on : c.next p ≡ q
  pub back : c.prev q ≡ p
  pub rises : rank p < rank q

-- the member q is the first of the list k
pub record IsHead (c : Chains) (k q : ℕ) : Type 0 where
  pub member : c.is_member q ≡ true
  pub first : c.prev q ≡ q
  pub list : c.list q ≡ k

-- Each member is the first of its list or right behind another, and so on to the last. The rank rises along each list, so none
-- runs in a circle.
pub record AreLinked (c : Chains) : Type 0 where
  pub rank : ℕ → ℕ
  pub first : (q : ℕ) → c.is_member q ≡ true → c.prev q ≡ q → c.head (c.list q) ≡ Some q
  pub before : (q : ℕ) → c.is_member q ≡ true → c.prev q ≢ q → IsBefore c rank (c.prev q) q
  pub after : (q : ℕ) → c.is_member q ≡ true → c.next q ≢ q → IsBefore c rank q (c.next q)
  pub heads : (k q : ℕ) → c.head k ≡ Some q → IsHead c k q
