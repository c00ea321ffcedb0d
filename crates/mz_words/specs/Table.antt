-- The table of forms: the word of each, and the kinds of the words behind it. This project's own.
use Rattle.std.specs.Prelude.{ℕ, List, [], ◌∷◌, Option, find, codes}
use Rattle.std.specs.Str.{bytes_eq}
use Rattle.mz_words.specs.declared.table.Form.{Form}
use Rattle.mz_words.specs.declared.table.Form.TheVariants as form
use Rattle.mz_words.specs.declared.kind.Kind.{Kind}
use Rattle.mz_words.specs.declared.kind.Kind.TheVariants.{Number, Small, Caller, Base, Name, Old, New, Given, Zone, Byte, ShowCount, BatchCount, Place, Range, Bytes}

abbrev pub row : Form → List ℕ × List Kind
row form.Round = (codes "round", [])
row form.Zone = (codes "zone", Zone ∷ [])
row form.Destroy = (codes "destroy", Zone ∷ [])
row form.SizeAt = (codes "size", Zone ∷ Number ∷ [])
row form.Where = (codes "where", Number ∷ [])
row form.Malloc = (codes "malloc", Base ∷ Number ∷ [])
row form.Calloc = (codes "calloc", Base ∷ Number ∷ Number ∷ [])
row form.Valloc = (codes "valloc", Base ∷ Number ∷ [])
row form.Memalign = (codes "memalign", Base ∷ Number ∷ Number ∷ [])
row form.Realloc = (codes "realloc", Old ∷ New ∷ Number ∷ [])
row form.Free = (codes "free", Name ∷ [])
row form.FreeAt = (codes "freeat", Name ∷ Number ∷ [])
row form.ZoneFree = (codes "zfree", Zone ∷ Name ∷ [])
row form.SizedFree = (codes "sfree", Name ∷ Number ∷ [])
row form.Size = (codes "size", Name ∷ [])
row form.Fill = (codes "fill", Name ∷ Byte ∷ [])
row form.Show = (codes "show", Name ∷ Number ∷ ShowCount ∷ [])
row form.Link = (codes "link", Name ∷ Number ∷ Name ∷ [])
row form.Give = (codes "give", Name ∷ Caller ∷ Given ∷ [])
row form.Batch = (codes "batch", Base ∷ BatchCount ∷ Number ∷ [])
row form.Unbatch = (codes "unbatch", Base ∷ [])
row form.Use = (codes "use", Zone ∷ [])
row form.Take = (codes "take", Place ∷ Number ∷ Number ∷ [])
row form.Back = (codes "back", Place ∷ Number ∷ Number ∷ [])
row form.Move = (codes "move", Number ∷ Place ∷ Place ∷ [])
row form.New = (codes "new", Place ∷ Number ∷ Number ∷ Number ∷ [])
row form.End = (codes "end", Place ∷ Number ∷ Number ∷ [])
row form.Resize = (codes "size", Place ∷ Number ∷ Number ∷ Number ∷ [])
row form.Full = (codes "full", Place ∷ Number ∷ Number ∷ [])
row form.Dry = (codes "dry", Small ∷ Number ∷ Number ∷ [])
row form.No = (codes "no", Place ∷ Small ∷ Number ∷ Number ∷ [])
row form.Open = (codes "open", Small ∷ [])
row form.Shut = (codes "shut", Small ∷ [])
row form.Held = (codes "held", [])
row form.NoZone = (codes "no-zone", [])
row form.Overflow = (codes "overflow", [])
row form.BadAlign = (codes "bad-align", [])
row form.NotHeld = (codes "not-held", [])
row form.WrongSize = (codes "wrong-size", Number ∷ [])
row form.OutOfRange = (codes "out-of-range", [])
row form.NameTaken = (codes "name-taken", [])
row form.TooMany = (codes "too-many", [])
row form.IsDefault = (codes "is-default", [])
row form.HasLive = (codes "has-live", Number ∷ [])
row form.Null = (codes "null", [])
row form.Nowhere = (codes "none", [])
row form.Done = (codes "ok", [])
row form.NotLive = (codes "not-live", [])
row form.Block = (codes "block", Number ∷ Number ∷ [])
row form.SizeIs = (codes "size", Number ∷ [])
row form.Bytes = (codes "bytes", Bytes ∷ [])
row form.Got = (codes "got", Number ∷ [])
row form.Freed = (codes "freed", Number ∷ [])
row form.InZone = (codes "zone", Zone ∷ [])
row form.Listed = (codes "block", Number ∷ Number ∷ Range ∷ Zone ∷ [])

abbrev pub form_word : Form → List ℕ
form_word f = (row f).0

abbrev pub kinds_of : Form → List Kind
kinds_of f = (row f).1

-- the form with this word
abbrev pub form_among : List Form → List ℕ → Option Form
form_among forms word = find (λ f. bytes_eq word (form_word f)) forms
