-- What the fields of a name are, once its text has been copied over 16 zeros.
use Rattle.std.proofs.Common.{◌≡◌, ℕ, ◌-◌, ◌≤◌, true, List, [], ◌∷◌, ◌++◌, length, take, drop, arith, refl, length-append}
use Rattle.std.specs.Prelude.{replicate}
use Rattle.std.proofs.lemmas.List.{take_at, drop-replicate, length-replicate}
use Rattle.mz_base.specs.Names.{is_base_name}

-- a name has at most 16 bytes
pub length_of_name : (text : List ℕ) → is_base_name text ≡ true → length text ≤ 16
length_of_name [] e = grind arith
length_of_name (c ∷ cs) e = grind arith

-- the 16 bytes of a name are its text, and then zeros
pub record IsLaidOut (text written : List ℕ) : Type 0 where
  pub short : length text ≤ 16
  pub whole : length written ≡ 16
  pub front : take (length text) written ≡ text
  pub padded : written ≡ text ++ replicate (16 - length text) 0

-- a name's text that was copied over the front of 16 zeros is laid out so
pub laid_out :
    (text copied : List ℕ) → is_base_name text ≡ true → copied ≡ text →
    IsLaidOut text (copied ++ drop {A = ℕ} (length text) (replicate 16 0))
laid_out text copied form same =
    let short : length text ≤ 16 = length_of_name text form in
    let rest : drop {A = ℕ} (length text) (replicate 16 0) ≡ replicate (16 - length text) 0 = drop-replicate (length text) 16 0 in
    let count : length (replicate {A = ℕ} (16 - length text) 0) ≡ 16 - length text = length-replicate (16 - length text) 0 in
    rw (same, rest) (record {
      short = short;
      whole = rw length-append (omega (arith, count));
      front = take_at text (replicate (16 - length text) 0) (length text) refl;
      padded = refl;
    })
