-- What a caller knows of the bytes of a block, after it learnt or forgot those of another.
use Rattle.std.proofs.Common.{◌≡◌, false, cond, not, List, [], ◌∷◌, Option, Some, None, refl, ap, sym, ◌∙◌, inl, inr}
use Rattle.std.specs.Prelude.{find, filter}
use Rattle.std.proofs.lemmas.Bool.{cases_Bool}
use Rattle.mz_base.specs.Space.{Block, same_block}
use Rattle.mz_record.specs.Bytes.{Bytes, fresh}
use Rattle.mz_lawful.specs.Standing.{Caller, bytes_of, forgetting, knowing}
use Rattle.mz_session.proofs.CountLemmas.{same-is, same-self}

-- the bytes that were found, or none known
abbrev found : Block → Option (Block × Bytes) → Bytes
found b o = elim o [ None ↦ fresh b.size | Some x ↦ x.1 ]

-- what was learnt of a block is known of it
pub known-now : (b : Block) (bs : Bytes) (me : Caller) → bytes_of (knowing b bs me) b ≡ bs
known-now b bs me = ap (λ d. found b (cond d (Some (b, bs)) (find (λ x. same_block b x.0) (filter (λ x. not (same_block b x.0)) me.known)))) (same-self b)

find-others : (b c : Block) (known : List (Block × Bytes)) → same_block c b ≡ false → find (λ x. same_block c x.0) (filter (λ x. not (same_block b x.0)) known) ≡ find (λ x. same_block c x.0) known
find-others b c [] other = refl
find-others b c (x ∷ xs) other = elim (cases_Bool (same_block b x.0)) [
  | inl same ↦
      let left : filter (λ y. not (same_block b y.0)) (x ∷ xs) ≡ filter (λ y. not (same_block b y.0)) xs = rw same refl in
      let passed : same_block c x.0 ≡ false = ap (same_block c) (sym (same-is b x.0 same)) ∙ other in
      let goes_on : find (λ y. same_block c y.0) (x ∷ xs) ≡ find (λ y. same_block c y.0) xs = rw passed refl in
      ap (find (λ y. same_block c y.0)) left ∙ find-others b c xs other ∙ sym goes_on
  | inr kept ↦
      let left : filter (λ y. not (same_block b y.0)) (x ∷ xs) ≡ x ∷ filter (λ y. not (same_block b y.0)) xs = rw kept refl in
      ap (find (λ y. same_block c y.0)) left ∙ ap (cond (same_block c x.0) (Some x)) (find-others b c xs other)
]

-- and of others what was known before
pub known-forgotten : (b c : Block) (me : Caller) → same_block c b ≡ false → bytes_of (forgetting b me) c ≡ bytes_of me c
known-forgotten b c me other = ap (found c) (find-others b c me.known other)

pub known-others : (b c : Block) (bs : Bytes) (me : Caller) → same_block c b ≡ false → bytes_of (knowing b bs me) c ≡ bytes_of me c
known-others b c bs me other =
    ap (λ d. found c (cond d (Some (b, bs)) (find (λ x. same_block c x.0) (filter (λ x. not (same_block b x.0)) me.known)))) other
    ∙ known-forgotten b c me other
