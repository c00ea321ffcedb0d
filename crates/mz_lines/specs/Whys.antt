-- The whys of a line, and which of them hold of its words wherever it stands. This project's own.
use Rattle.std.specs.Prelude.{ℕ, ◌==◌, Bool, false, not, ◌&&◌, ◌||◌, List, [], ◌∷◌, length, find, Option, None, is_none, if◌then◌else◌}
use Rattle.std.specs.List.{list_any}
use Rattle.std.specs.Option.{option_map_or}
use Rattle.mz_base.specs.Names.{is_digit}
use Rattle.mz_words.specs.declared.flaw.Flaw.{Flaw}
use Rattle.mz_words.specs.declared.flaw.Flaw.TheVariants as flaw
use Rattle.mz_words.specs.declared.kind.Kind.TheVariants.{Caller}
use Rattle.mz_words.specs.declared.table.Form.{Form}
use Rattle.mz_words.specs.declared.table.TheConstants.{COMMANDS, ROUND_LINES}
use Rattle.mz_words.specs.Table.{kinds_of, form_among}
use Rattle.mz_words.specs.Flaws.{is_wrong, some_wrong}
use Rattle.mz_lines.specs.declared.why.Why.{Why}
use Rattle.mz_lines.specs.declared.why.Why.TheVariants.{NotPlain, NotTrace, NotSpace, EmptyWord, UnknownCommand, WrongCount, NotNumber, NoSuchCaller, NotName, BeyondLimits, OutOfPlace, GivenBefore}

-- the number of a why
abbrev pub why_number : Why → ℕ
why_number NotPlain = 1
why_number NotTrace = 2
why_number NotSpace = 3
why_number EmptyWord = 4
why_number UnknownCommand = 5
why_number WrongCount = 6
why_number NotNumber = 7
why_number NoSuchCaller = 8
why_number NotName = 9
why_number BeyondLimits = 10
why_number OutOfPlace = 11
why_number GivenBefore = 12

-- a line whose first word begins with a digit is a caller's
abbrev pub begins_with_digit : List ℕ → Bool
begins_with_digit [] = false
begins_with_digit (c ∷ cs) = is_digit c

abbrev pub is_callers : List (List ℕ) → Bool
is_callers [] = false
is_callers (word ∷ words) = begins_with_digit word

-- the form of a line by its words, which in a caller's line stand behind the caller's number
abbrev pub form_among_words : List Form → List (List ℕ) → Option Form
form_among_words forms [] = None
form_among_words forms (word ∷ words) = form_among forms word

abbrev pub form_of : List (List ℕ) → Option Form
form_of [] = None
form_of (word ∷ words) = if begins_with_digit word then form_among_words COMMANDS words else form_among ROUND_LINES word

-- the words behind the form's
abbrev pub behind_first : List (List ℕ) → List (List ℕ)
behind_first [] = []
behind_first (word ∷ words) = words

abbrev pub fields_of : List (List ℕ) → List (List ℕ)
fields_of [] = []
fields_of (word ∷ words) = if begins_with_digit word then behind_first words else words

-- there are as many words as the form asks for
abbrev pub has_count : List (List ℕ) → Form → Bool
has_count words f = length (kinds_of f) == length (fields_of words)

-- the caller's number, or a word behind the form's, has this flaw
abbrev pub caller_wrong : ℕ → Flaw → List (List ℕ) → Bool
caller_wrong callers y [] = false
caller_wrong callers y (word ∷ words) = begins_with_digit word && is_wrong callers [] y Caller word

abbrev pub field_wrong : ℕ → Flaw → List (List ℕ) → Form → Bool
field_wrong callers y words f = caller_wrong callers y words || some_wrong callers y [] (kinds_of f) (fields_of words)

abbrev pub has_flaw : ℕ → Flaw → List (List ℕ) → Bool
has_flaw callers y words = option_map_or (field_wrong callers y words) (form_of words) false

-- whether a why holds of the words of a line, wherever it stands
abbrev pub word_holds : ℕ → List (List ℕ) → Why → Bool
word_holds callers words EmptyWord = list_any (λ word. length word == 0) words
word_holds callers words UnknownCommand = is_none (form_of words)
word_holds callers words WrongCount = option_map_or (λ f. not (has_count words f)) (form_of words) false
word_holds callers words NotNumber = has_flaw callers flaw.NotNumber words
word_holds callers words NoSuchCaller = has_flaw callers flaw.NoSuchCaller words
word_holds callers words NotName = has_flaw callers flaw.NotName words
word_holds callers words BeyondLimits = has_flaw callers flaw.BeyondLimits words
word_holds callers words NotPlain = false
word_holds callers words NotTrace = false
word_holds callers words NotSpace = false
word_holds callers words OutOfPlace = false
word_holds callers words GivenBefore = false

-- the whys of the words of a line, in their order, and the first that holds
abbrev pub word_whys : List Why
word_whys = EmptyWord ∷ UnknownCommand ∷ WrongCount ∷ NotNumber ∷ NoSuchCaller ∷ NotName ∷ BeyondLimits ∷ []

abbrev pub word_why : ℕ → List (List ℕ) → Option Why
word_why callers words = find (word_holds callers words) word_whys
