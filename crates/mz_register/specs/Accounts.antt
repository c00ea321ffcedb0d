-- The account of a pass, and its exchanges. This project's own.
use Rattle.std.specs.Prelude.{◌≡◌, ◌≢◌, ℕ, ◌+◌, ◌-◌, ◌≤◌, ◌∷◌, length}
use Rattle.mz_book.specs.Account.{Account}
use Rattle.mz_book.specs.Exchanges.{Exchanges, Clashes}
use Rattle.mz_desk.specs.declared.view.View.{View}
use Rattle.mz_desk.specs.Words.{lock_place}
use Rattle.mz_desk.specs.Views.{view_account}
use Rattle.mz_register.specs.declared.pass.Pass.{Pass}
use Rattle.mz_register.specs.Passes.{table_numbers}

-- its name is its table
abbrev pub pass_account : {V : Type 0} → Pass V → Account
pass_account p = view_account p.seat.me.0 (table_numbers p.seat.table_id) (p.limit - length p.noted.items) p.holds p.founds p.found

-- the account of a desk, whose name is also the borrow of the pass
abbrev pub at_desk : ℕ → Account → Account
at_desk borrow s = record s { name = borrow ∷ s.name }

abbrev pub exchanges_of : View → Exchanges
exchanges_of v = record { wins = length v.wins; clashes = v.clashes }

-- the exchanges of a pass are those of its seat
abbrev pub pass_exchanges : {V : Type 0} → Pass V → Exchanges
pass_exchanges p = exchanges_of p.seat.me.0

-- The lock of the keeper k shows another caller, as an exchange found. That changed nothing else.
pub record FindsTaken (s : Account) (e : Exchanges) (k word : ℕ) (t : Account) (e' : Exchanges) : Type 0 where
  pub some : 1 ≤ word
  pub most : word ≤ s.profile.callers
  pub other : word ≢ s.caller + 1
  pub clash : Clashes s e (lock_place k) 0 word e'
  pub same : t ≡ s

-- just one exchange found the word that it expected, whatever others found
abbrev pub WinsOne : Exchanges → Exchanges → Type 0
WinsOne e e' = e'.wins ≡ e.wins + 1

-- and there was no other exchange
abbrev pub WinsAtOnce : Exchanges → Exchanges → Type 0
WinsAtOnce e e' = e' ≡ record e { wins = e.wins + 1 }
