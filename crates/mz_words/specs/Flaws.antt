-- What can be wrong with a word in its place. This project's own.
use Rattle.std.specs.Prelude.{ℕ, Bool, true, false, not, is_none, nat_lt, ◌&&◌, ◌||◌, List, [], ◌∷◌}
use Rattle.mz_base.specs.Names.{is_null, is_base_name}
use Rattle.mz_words.specs.declared.count.TheConstants.{MOST_IN_BATCH}
use Rattle.mz_words.specs.declared.kind.Kind.{Kind}
use Rattle.mz_words.specs.declared.kind.Kind.TheVariants as kind
use Rattle.mz_words.specs.declared.flaw.Flaw.{Flaw}
use Rattle.mz_words.specs.declared.flaw.Flaw.TheVariants.{NotNumber, NoSuchCaller, NotName, BeyondLimits}
use Rattle.mz_words.specs.Numbers.{is_number, is_number_from, value_of}
use Rattle.mz_words.specs.Names.{is_name, is_given_name, is_new}
use Rattle.mz_words.specs.Places.{place_of}
use Rattle.mz_words.specs.Hex.{shown_of}
use Rattle.mz_words.specs.Ranges.{range_of}

-- the kinds that are numbers
abbrev pub is_numeric : Kind → Bool
is_numeric kind.Number = true
is_numeric kind.Small = true
is_numeric kind.Caller = true
is_numeric kind.Base = false
is_numeric kind.Name = false
is_numeric kind.Old = false
is_numeric kind.New = false
is_numeric kind.Given = false
is_numeric kind.Zone = false
is_numeric kind.Byte = true
is_numeric kind.ShowCount = true
is_numeric kind.BatchCount = true
is_numeric kind.Place = false
is_numeric kind.Range = false
is_numeric kind.Bytes = false

-- no number of a caller
abbrev pub is_no_caller : ℕ → Kind → List ℕ → Bool
is_no_caller callers kind.Caller t = not (is_number t && nat_lt (value_of t) callers)
is_no_caller callers _ t = false

-- no name, place, range or bytes of the form that the place asks for
abbrev pub is_no_name : List ℕ → Kind → List ℕ → Bool
is_no_name before kind.Base t = not (is_base_name t)
is_no_name before kind.Name t = not (is_name t)
is_no_name before kind.Old t = not (is_null t || is_name t)
is_no_name before kind.New t = not (is_name t && is_new before t)
is_no_name before kind.Given t = not (is_given_name t)
is_no_name before kind.Zone t = not (is_base_name t)
is_no_name before kind.Place t = is_none (place_of t)
is_no_name before kind.Range t = is_none (range_of t)
is_no_name before kind.Bytes t = is_none (shown_of t)
is_no_name before _ t = false

-- a number that is too large for its place, or too small
abbrev pub is_beyond : Kind → List ℕ → Bool
is_beyond kind.Small t = not (is_number_from 0 4294967295 t)
is_beyond kind.Byte t = not (is_number_from 0 255 t)
is_beyond kind.ShowCount t = not (is_number_from 1 64 t)
is_beyond kind.BatchCount t = not (is_number_from 1 MOST_IN_BATCH t)
is_beyond _ t = false

-- whether a word has a flaw in a place of this kind, in a trace with so many callers, behind the text of the word in front
unfoldable pub is_wrong : ℕ → List ℕ → Flaw → Kind → List ℕ → Bool
is_wrong callers before NotNumber k t = is_numeric k && not (is_number t)
is_wrong callers before NoSuchCaller k t = is_no_caller callers k t
is_wrong callers before NotName k t = is_no_name before k t
is_wrong callers before BeyondLimits k t = is_beyond k t

-- whether some word has it
abbrev pub some_wrong : ℕ → Flaw → List ℕ → List Kind → List (List ℕ) → Bool
some_wrong callers y before (k ∷ ks) (t ∷ ts) = is_wrong callers before y k t || some_wrong callers y t ks ts
some_wrong callers y before _ _ = false

-- all flaws, in their order
abbrev pub flaws : List Flaw
flaws = NotNumber ∷ NoSuchCaller ∷ NotName ∷ BeyondLimits ∷ []
