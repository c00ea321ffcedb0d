-- The limits of a profile, as a fact and as a test.
use Rattle.std.proofs.Common.{◌≡◌, ℕ, true, refl, arith, leb}
use Rattle.std.proofs.lemmas.Bool.{and_parts, leb-true, le-leb}
use Rattle.mz_base.specs.Limits.{IsFrom, IsWithinLimits}
use Rattle.mz_base.specs.declared.profile.Profile.{Profile}
use Rattle.mz_words.specs.Numbers.{is_from}
use Rattle.mz_lines.specs.Spaces.{is_within_limits}

from_parts : (least most n : ℕ) → is_from least most n ≡ true → IsFrom least most n
from_parts least most n h = let p = and_parts (leb least n) (leb n most) h in (leb-true _ _ p.0, leb-true _ _ p.1)

from_test : (least most n : ℕ) → IsFrom least most n → is_from least most n ≡ true
from_test least most n h = rw (le-leb least n h.0) (le-leb n most h.1)

-- the test says that the numbers are within the limits
pub limits_are : (p : Profile) → is_within_limits p ≡ true → IsWithinLimits p
limits_are p e =
    let z = and_parts _ (is_from 1 4 p.zones) e in
    let g = and_parts _ (is_from 1 68719476735 p.most_gen) z.0 in
    let w = and_parts _ (leb p.nano p.pages) g.0 in
    let n = and_parts _ (leb p.nano 1024) w.0 in
    let m = and_parts _ (is_from 1 16 p.magazines) n.0 in
    let c = and_parts (is_from 1 16384 p.pages) (is_from 1 16 p.callers) m.0 in
    record {
      pages = from_parts 1 16384 p.pages c.0;
      callers = from_parts 1 16 p.callers c.1;
      magazines = from_parts 1 16 p.magazines m.1;
      nano = (omega arith, leb-true _ _ n.1);
      nano_within = leb-true _ _ w.1;
      most_gen = from_parts 1 68719476735 p.most_gen g.1;
      zones = from_parts 1 4 p.zones z.1;
    }

-- and it says so of all that are
pub limits_again : (p : Profile) → IsWithinLimits p → is_within_limits p ≡ true
limits_again p h =
    rw (
      from_test 1 16384 p.pages h.pages,
      from_test 1 16 p.callers h.callers,
      from_test 1 16 p.magazines h.magazines,
      le-leb p.nano 1024 h.nano.1,
      le-leb p.nano p.pages h.nano_within,
      from_test 1 68719476735 p.most_gen h.most_gen,
      from_test 1 4 p.zones h.zones,
    ) refl
