-- A sentence has one of the forms of its table, and words of that form's kinds: what holds of such words for each form of the
-- table holds of every sentence.
use Rattle.std.proofs.Common.{◌≡◌, ℕ, Bool, true, false, cond, map, List, [], ◌∷◌, subst, sym, ap, ◌∙◌, ◌⊎◌, inl, inr, Option, Some, None}
use Rattle.std.specs.Str.{bytes_eq}
use Rattle.mz_base.specs.declared.range.Range.{Range}
use Rattle.mz_events.specs.declared.place.Place.{Place}
use Rattle.mz_words.specs.declared.kind.Kind.{Kind}
use Rattle.mz_words.specs.declared.kind.Kind.TheVariants as kind
use Rattle.mz_words.specs.declared.kind.Word.{Word}
use Rattle.mz_words.specs.declared.kind.Word.TheVariants as word
use Rattle.mz_words.specs.declared.name.GivenName.{GivenName}
use Rattle.mz_words.specs.declared.name.Name.{Name}
use Rattle.mz_words.specs.declared.table.Form.{Form}
use Rattle.mz_words.specs.Kinds.{kind_of}
use Rattle.mz_words.specs.Table.{form_among, form_word, kinds_of}
use Rattle.mz_lines.proofs.Options.{some_same}

-- it holds of words of these kinds, whatever stands in them
abbrev pub OfKinds : List Kind → (List Word → Type 0) → Type 0
OfKinds [] P = P []
OfKinds (kind.Number ∷ ks) P = (n : ℕ) → OfKinds ks (λ ws. P (word.Number n ∷ ws))
OfKinds (kind.Small ∷ ks) P = (n : ℕ) → OfKinds ks (λ ws. P (word.Small n ∷ ws))
OfKinds (kind.Caller ∷ ks) P = (n : ℕ) → OfKinds ks (λ ws. P (word.Caller n ∷ ws))
OfKinds (kind.Base ∷ ks) P = (b : List ℕ) → OfKinds ks (λ ws. P (word.Base b ∷ ws))
OfKinds (kind.Name ∷ ks) P = (n : Name) → OfKinds ks (λ ws. P (word.Name n ∷ ws))
OfKinds (kind.Old ∷ ks) P = (o : Option Name) → OfKinds ks (λ ws. P (word.Old o ∷ ws))
OfKinds (kind.New ∷ ks) P = (n : Name) → OfKinds ks (λ ws. P (word.New n ∷ ws))
OfKinds (kind.Given ∷ ks) P = (g : GivenName) → OfKinds ks (λ ws. P (word.Given g ∷ ws))
OfKinds (kind.Zone ∷ ks) P = (z : List ℕ) → OfKinds ks (λ ws. P (word.Zone z ∷ ws))
OfKinds (kind.Byte ∷ ks) P = (n : ℕ) → OfKinds ks (λ ws. P (word.Byte n ∷ ws))
OfKinds (kind.ShowCount ∷ ks) P = (n : ℕ) → OfKinds ks (λ ws. P (word.ShowCount n ∷ ws))
OfKinds (kind.BatchCount ∷ ks) P = (n : ℕ) → OfKinds ks (λ ws. P (word.BatchCount n ∷ ws))
OfKinds (kind.Place ∷ ks) P = (k : Place) → OfKinds ks (λ ws. P (word.Place k ∷ ws))
OfKinds (kind.Range ∷ ks) P = (r : Range) → OfKinds ks (λ ws. P (word.Range r ∷ ws))
OfKinds (kind.Bytes ∷ ks) P = (bs : List ℕ) → OfKinds ks (λ ws. P (word.Bytes bs ∷ ws))

-- and so of all words that are of them
of_kinds : (P : List Word → Type 0) (ws : List Word) → OfKinds (map kind_of ws) P → P ws
of_kinds P [] h = h
of_kinds P (word.Number n ∷ ws) h = of_kinds (λ vs. P (word.Number n ∷ vs)) ws (h n)
of_kinds P (word.Small n ∷ ws) h = of_kinds (λ vs. P (word.Small n ∷ vs)) ws (h n)
of_kinds P (word.Caller n ∷ ws) h = of_kinds (λ vs. P (word.Caller n ∷ vs)) ws (h n)
of_kinds P (word.Base b ∷ ws) h = of_kinds (λ vs. P (word.Base b ∷ vs)) ws (h b)
of_kinds P (word.Name n ∷ ws) h = of_kinds (λ vs. P (word.Name n ∷ vs)) ws (h n)
of_kinds P (word.Old o ∷ ws) h = of_kinds (λ vs. P (word.Old o ∷ vs)) ws (h o)
of_kinds P (word.New n ∷ ws) h = of_kinds (λ vs. P (word.New n ∷ vs)) ws (h n)
of_kinds P (word.Given g ∷ ws) h = of_kinds (λ vs. P (word.Given g ∷ vs)) ws (h g)
of_kinds P (word.Zone z ∷ ws) h = of_kinds (λ vs. P (word.Zone z ∷ vs)) ws (h z)
of_kinds P (word.Byte n ∷ ws) h = of_kinds (λ vs. P (word.Byte n ∷ vs)) ws (h n)
of_kinds P (word.ShowCount n ∷ ws) h = of_kinds (λ vs. P (word.ShowCount n ∷ vs)) ws (h n)
of_kinds P (word.BatchCount n ∷ ws) h = of_kinds (λ vs. P (word.BatchCount n ∷ vs)) ws (h n)
of_kinds P (word.Place k ∷ ws) h = of_kinds (λ vs. P (word.Place k ∷ vs)) ws (h k)
of_kinds P (word.Range r ∷ ws) h = of_kinds (λ vs. P (word.Range r ∷ vs)) ws (h r)
of_kinds P (word.Bytes bs ∷ ws) h = of_kinds (λ vs. P (word.Bytes bs ∷ vs)) ws (h bs)

-- what follows where it holds of each of these forms, with any words of its kinds
abbrev pub FromEach : List Form → (Form → List Word → Type 0) → Type 0 → Type 0
FromEach [] P Q = Q
FromEach (f ∷ fs) P Q = OfKinds (kinds_of f) (P f) → FromEach fs P Q

settled : (fs : List Form) (P : Form → List Word → Type 0) (Q : Type 0) → Q → FromEach fs P Q
settled [] P Q q = q
settled (f ∷ fs) P Q q = λ h. settled fs P Q q

-- there is no value where none was read
pub no_value : {A B : Type 0} (x : A) → None ≡ Some x → B
no_value x h = absurd cc

-- it holds of a form that is found among these, with words of its kinds
first_or_later : (b : Bool) (g f : Form) (o : Option Form) → cond b (Some g) o ≡ Some f → (g ≡ f) ⊎ (o ≡ Some f)
first_or_later true g f o h = inl (some_same g f h)
first_or_later false g f o h = inr h

of_form : (P : Form → List Word → Type 0) (g f : Form) (ws : List Word) → g ≡ f → map kind_of ws ≡ kinds_of f → OfKinds (kinds_of g) (P g) → P f ws
of_form P g f ws same kinds h =
    let kinds_are : map kind_of ws ≡ kinds_of g = kinds ∙ ap kinds_of (sym same) in
    subst (λ (x : Form). P x ws) same (of_kinds (P g) ws (subst (λ (ks : List Kind). OfKinds ks (P g)) (sym kinds_are) h))

pub of_each : (P : Form → List Word → Type 0) (forms : List Form) (t : List ℕ) (f : Form) (ws : List Word) → form_among forms t ≡ Some f → map kind_of ws ≡ kinds_of f → FromEach forms P (P f ws)
of_each P [] t f ws among kinds = no_value f among
of_each P (g ∷ gs) t f ws among kinds = λ h. elim (first_or_later (bytes_eq t (form_word g)) g f (form_among gs t) among) [
  | inl same ↦ settled gs P (P f ws) (of_form P g f ws same kinds h)
  | inr later ↦ of_each P gs t f ws later kinds
]
