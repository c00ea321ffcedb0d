-- No input that is the text of a trace is refused, and how a call ends by what it has to say.
use Rattle.std.proofs.Common.{◌≡◌, ◌⊎◌, ◌≤◌, ◌∙◌, ℕ, List, ◌++◌, length, refl, ap, inl, inr, subst, arith, length-append, append-nil, sym}
use Rattle.std.specs.Prelude.{Option, Some, None}
use Rattle.std.specs.Io.KnownBytes.{Consumes, IsAtEnd}
use Rattle.mz_io.specs.Count.{Rose}
use Rattle.mz_run.specs.declared.status.Status.{Status}
use Rattle.mz_run.specs.declared.status.Status.TheVariants.{Done, No, Usage, BadInput, ReadFault, WriteFault, NoMemory, TooLong}
use Rattle.mz_run.specs.Built.{HasUnbuilt}
use Rattle.mz_run.specs.Top.{most_bytes, Seen, IsInput, IsTooLong, SaysBadLine, IsRefusal, no_trace, not_built, RunSays, CheckSays, CallEnds}
use Rattle.mz_trace.specs.Faults.{bad_line_of}

-- a source that told its bytes and gave all of them gave just these
all_given : (bytes given : List ℕ) (after : Option (List ℕ)) → Consumes (Some bytes) after given → IsAtEnd after → bytes ≡ given
all_given bytes given None read ended = absurd read
all_given bytes given (Some rest) read ended = read ∙ ap (λ l. given ++ l) ended ∙ append-nil given

-- a source gives no more bytes than it told
no_more_given : (bytes given : List ℕ) (after : Option (List ℕ)) → Consumes (Some bytes) after given → length given ≤ length bytes
no_more_given bytes given None read = absurd read
no_more_given bytes given (Some rest) read = omega (arith, ap length read, length-append given rest)

-- the input of such a source is what it told
told_input : (before after : Option (List ℕ)) (bytes given : List ℕ) → before ≡ Some bytes → IsInput before after given → bytes ≡ given
told_input before after bytes given told input =
    all_given bytes given after (subst (λ (o : Option (List ℕ)). Consumes o after given) told input.read) input.ended

-- and it isn't too long
never_too_long : (before after : Option (List ℕ)) (bytes given : List ℕ) → before ≡ Some bytes → length bytes ≤ most_bytes → ¬ IsTooLong before after given
never_too_long before after bytes given told few more =
    let read = subst (λ (o : Option (List ℕ)). Consumes o after given) told more.read in
    absurd (omega (arith, no_more_given bytes given after read, more.count, few))

-- bytes without a bad line are told to have none
never_bad : (bytes output : List ℕ) → bad_line_of bytes ≡ None → ¬ SaysBadLine bytes output
never_bad bytes output good tells = let bad = tells.bad in cc

-- and built ones aren't refused
never_refused : (bytes output : List ℕ) → bad_line_of bytes ≡ None → ((line : ℕ) → ¬ HasUnbuilt bytes line) → ¬ IsRefusal bytes output
never_refused bytes output good built (no_trace tells) = never_bad bytes output good tells
never_refused bytes output good built (not_built tells) = built tells.line tells.unbuilt

pub run_completeness :
    (before after : Seen) (s : Status) (bytes : List ℕ) → CallEnds RunSays before after s
    → ¬ Rose before.read_faults after.read_faults → ¬ Rose before.write_faults after.write_faults
    → before.left ≡ Some bytes → length bytes ≤ most_bytes → bad_line_of bytes ≡ None
    → ((line : ℕ) → ¬ HasUnbuilt bytes line) → (s ≡ Done) ⊎ (s ≡ NoMemory)
run_completeness before after Done bytes ends reads writes told few good built = inl refl
run_completeness before after No bytes ends reads writes told few good built = absurd (ends.1.2)
run_completeness before after Usage bytes ends reads writes told few good built = absurd (ends.1.2)
run_completeness before after BadInput bytes ends reads writes told few good built =
    let says = ends.1 in
    let same : bytes ≡ says.0 = told_input before.left after.left bytes says.0 told says.1 in
    absurd (never_refused bytes ends.0 good built (subst (λ (l : List ℕ). IsRefusal l ends.0) (sym same) says.2))
run_completeness before after ReadFault bytes ends reads writes told few good built = absurd (reads ends.0)
run_completeness before after WriteFault bytes ends reads writes told few good built = absurd (writes ends.3.cause)
run_completeness before after NoMemory bytes ends reads writes told few good built = inr refl
run_completeness before after TooLong bytes ends reads writes told few good built =
    absurd (never_too_long before.left after.left bytes ends.1.bytes told few ends.1.input)

pub check_completeness :
    (before after : Seen) (s : Status) (bytes : List ℕ) → CallEnds CheckSays before after s
    → ¬ Rose before.read_faults after.read_faults → ¬ Rose before.write_faults after.write_faults
    → before.left ≡ Some bytes → length bytes ≤ most_bytes → bad_line_of bytes ≡ None → (s ≡ Done) ⊎ (s ≡ NoMemory)
check_completeness before after Done bytes ends reads writes told few good = inl refl
check_completeness before after No bytes ends reads writes told few good =
    let says = ends.1 in
    let same : bytes ≡ says.0 = told_input before.left after.left bytes says.0 told says.1 in
    absurd (never_bad bytes ends.0 good (subst (λ (l : List ℕ). SaysBadLine l ends.0) (sym same) says.2))
check_completeness before after Usage bytes ends reads writes told few good = absurd (ends.1.2)
check_completeness before after BadInput bytes ends reads writes told few good = absurd (ends.1.2)
check_completeness before after ReadFault bytes ends reads writes told few good = absurd (reads ends.0)
check_completeness before after WriteFault bytes ends reads writes told few good = absurd (writes ends.3.cause)
check_completeness before after NoMemory bytes ends reads writes told few good = inr refl
check_completeness before after TooLong bytes ends reads writes told few good =
    absurd (never_too_long before.left after.left bytes ends.1.bytes told few ends.1.input)

-- whatever the bytes are
pub check_answers :
    (before after : Seen) (s : Status) (bytes : List ℕ) → CallEnds CheckSays before after s
    → ¬ Rose before.read_faults after.read_faults → ¬ Rose before.write_faults after.write_faults
    → before.left ≡ Some bytes → length bytes ≤ most_bytes → (s ≡ Done) ⊎ ((s ≡ No) ⊎ (s ≡ NoMemory))
check_answers before after Done bytes ends reads writes told few = inl refl
check_answers before after No bytes ends reads writes told few = inr (inl refl)
check_answers before after Usage bytes ends reads writes told few = absurd (ends.1.2)
check_answers before after BadInput bytes ends reads writes told few = absurd (ends.1.2)
check_answers before after ReadFault bytes ends reads writes told few = absurd (reads ends.0)
check_answers before after WriteFault bytes ends reads writes told few = absurd (writes ends.3.cause)
check_answers before after NoMemory bytes ends reads writes told few = inr (inr refl)
check_answers before after TooLong bytes ends reads writes told few =
    absurd (never_too_long before.left after.left bytes ends.1.bytes told few ends.1.input)

-- a count that is always 0 never rises
pub never_rises : Rose 0 0 → ⊥
never_rises rose = let more : 1 ≤ 0 = rose in absurd (omega arith)
