-- Finite maps from places: what they answer after a change.
use Rattle.std.proofs.Common.{◌≡◌, ◌≢◌, ℕ, Some, None, refl, ◌∙◌}
use Rattle.std.proofs.lemmas.Bool.{eq-eqb, ne_eqb}
use Rattle.std.specs.Ordering.{nat_cmp}
use Rattle.std.specs.Cmp.{nat_cmp_total, unsigned_tied}
use Rattle.std.specs.FinMap as map
use Rattle.std.specs.FinMap.{get-insert, get-remove, same_map, nat_cmp-IsAntisymmetric}

pub get_inserted : (m : map.FinMap nat_cmp ℕ) (k v q : ℕ) → q ≡ k → map.get (map.insert m k v) q ≡ Some v
get_inserted m k v q e = get-insert nat_cmp_total m k v q ∙ rw (unsigned_tied q k, eq-eqb q k e) refl

pub get_not_inserted : (m : map.FinMap nat_cmp ℕ) (k v q : ℕ) → q ≢ k → map.get (map.insert m k v) q ≡ map.get m q
get_not_inserted m k v q e = get-insert nat_cmp_total m k v q ∙ rw (unsigned_tied q k, ne_eqb q k e) refl

pub get_removed : (m : map.FinMap nat_cmp ℕ) (k q : ℕ) → q ≡ k → map.get (map.remove m k) q ≡ None
get_removed m k q e = get-remove nat_cmp_total m k q ∙ rw (unsigned_tied q k, eq-eqb q k e) refl

pub get_not_removed : (m : map.FinMap nat_cmp ℕ) (k q : ℕ) → q ≢ k → map.get (map.remove m k) q ≡ map.get m q
get_not_removed m k q e = get-remove nat_cmp_total m k q ∙ rw (unsigned_tied q k, ne_eqb q k e) refl

-- two maps that answer alike are one
pub same_members : (m n : map.FinMap nat_cmp ℕ) → ((q : ℕ) → map.get m q ≡ map.get n q) → m ≡ n
same_members m n alike = same_map nat_cmp_total nat_cmp-IsAntisymmetric m n alike
