-- A word is read exactly where it has no flaw. Only the first law goes by kinds.
use Rattle.std.proofs.Common.{◌≡◌, ℕ, Bool, true, false, List, [], ◌∷◌, length, eqb, ltb, cond, arith, refl, sym, ap, ◌∙◌, Option, Some, None}
use Rattle.std.specs.Prelude.{◌&&◌, ◌||◌, not, is_some, is_none}
use Rattle.std.specs.List.{list_any}
use Rattle.std.specs.Option.{option_map_or}
use Rattle.std.proofs.lemmas.Bool.{ne_eqb}
use Rattle.mz_base.specs.Names.{is_base_name, is_null}
use Rattle.mz_words.specs.declared.kind.Kind.{Kind}
use Rattle.mz_words.specs.declared.kind.Kind.TheVariants as kind
use Rattle.mz_words.specs.declared.kind.Word.{Word}
use Rattle.mz_words.specs.declared.kind.Word.TheVariants as word
use Rattle.mz_words.specs.declared.name.GivenName.{GivenName}
use Rattle.mz_words.specs.declared.name.Name.TheVariants as name
use Rattle.mz_words.specs.Numbers.{is_from, is_number, is_number_from, number_of, value_of, ◌>>=◌, number_from, caller_of}
use Rattle.mz_words.specs.Names.{is_name, is_batch_name, is_given_name, old_name_of, new_name_of, is_new, base_of, name_of, given_of, batch_of, longer_name_of}
use Rattle.mz_words.specs.Places.{place_of}
use Rattle.mz_words.specs.Hex.{shown_of}
use Rattle.mz_words.specs.Kinds.{read_word}
use Rattle.mz_words.specs.Flaws.{is_wrong, some_wrong, flaws}
use Rattle.mz_words.specs.Ranges.{range_of}
use Rattle.mz_words.proofs.ReadIsWritten.{bind_parts}
use Rattle.mz_words.specs.Sentences.{read_words}
use Rattle.mz_words.proofs.NameLemmas.{is_some-batch_of, is_some-number_from}

-- reading, as a test
told : {A B : Type 0} (o : Option A) (f : A → B) → is_some (o >>= λ x. Some (f x)) ≡ is_some o
told None f = refl
told (Some x) f = refl

if_told : {A : Type 0} (b : Bool) (x : A) → is_some (cond b (Some x) None) ≡ b
if_told true x = refl
if_told false x = refl

then_told : {A B : Type 0} (b : Bool) (x : A) (f : A → Option B) → is_some (cond b (Some x) None >>= f) ≡ (b && is_some (f x))
then_told true x f = refl
then_told false x f = refl

caller_told : (callers : ℕ) (t : List ℕ) → is_some (caller_of callers t) ≡ (is_number t && ltb (value_of t) callers)
caller_told callers t = then_told (is_number t) (value_of t) (λ n. cond (ltb n callers) (Some n) None) ∙ ap (λ (b : Bool). is_number t && b) (if_told (ltb (value_of t) callers) (value_of t))

when_told : {A : Type 0} (b : Bool) (o : Option A) → is_some (cond b o None) ≡ (b && is_some o)
when_told true o = refl
when_told false o = refl

abbrev given_name : List ℕ → GivenName
given_name base = record { base = base }

pub given_told : (t : List ℕ) → is_some (given_of t) ≡ is_given_name t
given_told [] = refl
given_told (c ∷ cs) =
    when_told (eqb c 64) (base_of cs >>= λ base. Some (given_name base))
    ∙ ap (λ (b : Bool). eqb c 64 && b) (told (base_of cs) given_name ∙ if_told (is_base_name cs) cs)

either_told : {A B : Type 0} (o : Option A) (f : A → B) (p : Option B) → is_some (option_map_or (λ x. Some (f x)) o p) ≡ (is_some o || is_some p)
either_told None f p = refl
either_told (Some x) f p = refl

three : (a b c : Bool) → (a || (b || c)) ≡ (a || b || c)
three true b c = refl
three false b c = refl

pub name_told : (t : List ℕ) → is_some (name_of t) ≡ is_name t
name_told t =
    either_told (base_of t) name.Base (longer_name_of t)
    ∙ ap (λ (b : Bool). b || is_some (longer_name_of t)) (if_told (is_base_name t) t)
    ∙ ap (λ (b : Bool). is_base_name t || b) (either_told (batch_of t) name.Batch (given_of t >>= λ g. Some (name.Given g)) ∙ ap (λ (b : Bool). b || is_some (given_of t >>= λ g. Some (name.Given g))) (is_some-batch_of t) ∙ ap (λ (b : Bool). is_batch_name t || b) (told (given_of t) name.Given ∙ given_told t))
    ∙ three (is_base_name t) (is_batch_name t) (is_given_name t)

else_told : {A : Type 0} (b : Bool) (x : A) (o : Option A) → is_some (cond b (Some x) o) ≡ (b || is_some o)
else_told true x o = refl
else_told false x o = refl

old_told : (t : List ℕ) → is_some (old_name_of t) ≡ (is_null t || is_name t)
old_told t = else_told (is_null t) None (name_of t >>= λ n. Some (Some n)) ∙ ap (λ (b : Bool). is_null t || b) (told (name_of t) (λ n. Some n) ∙ name_told t)

then_if : {A : Type 0} (o : Option A) (b : Bool) → is_some (o >>= λ x. cond b (Some x) None) ≡ (is_some o && b)
then_if None b = refl
then_if (Some x) b = if_told b x

new_told : (before t : List ℕ) → is_some (new_name_of before t) ≡ (is_name t && is_new before t)
new_told before t = then_if (name_of t) (is_new before t) ∙ ap (λ (b : Bool). b && is_new before t) (name_told t)

-- the tests of a word, flaw by flaw
abbrev any : Bool → Bool → Bool → Bool → Bool
any a b c d = a || (b || (c || (d || false)))

plain_number : (n : Bool) → any (true && not n) false false false ≡ not n
plain_number true = refl
plain_number false = refl

number_of_caller : (n r : Bool) → any (true && not n) (not (n && r)) false false ≡ not (n && r)
number_of_caller true true = refl
number_of_caller true false = refl
number_of_caller false r = refl

limited_number : (n r : Bool) → any (true && not n) false false (not (n && r)) ≡ not (n && r)
limited_number true true = refl
limited_number true false = refl
limited_number false r = refl

plain_name : (b : Bool) → any false false (not b) false ≡ not b
plain_name true = refl
plain_name false = refl

by_limits : (least most : ℕ) (t : List ℕ) (f : ℕ → Word) → any (true && not (is_number t)) false false (not (is_number_from least most t)) ≡ is_none (number_from least most t >>= λ n. Some (f n))
by_limits least most t f = limited_number (is_number t) (is_from least most (value_of t)) ∙ ap not (sym (told (number_from least most t) f ∙ is_some-number_from least most t))

by_name : {A : Type 0} (o : Option A) (f : A → Word) (b : Bool) → is_some o ≡ b → any false false (not b) false ≡ is_none (o >>= λ x. Some (f x))
by_name {A = A} o f b h = plain_name b ∙ ap not (sym (told o f ∙ h))

-- a word is read where none of them holds
abbrev wrong : ℕ → List ℕ → Kind → List ℕ → Bool
wrong callers before k t = list_any (λ y. is_wrong callers before y k t) flaws

pub wrong_is_unread : (callers : ℕ) (before : List ℕ) (k : Kind) (t : List ℕ) → wrong callers before k t ≡ is_none (read_word callers before k t)
unfolding is_wrong read_word
wrong_is_unread callers before kind.Number t = plain_number (is_number t) ∙ ap not (sym (told (number_of t) word.Number ∙ if_told (is_number t) (value_of t)))
wrong_is_unread callers before kind.Small t = by_limits 0 4294967295 t word.Small
wrong_is_unread callers before kind.Caller t = number_of_caller (is_number t) (ltb (value_of t) callers) ∙ ap not (sym (told (caller_of callers t) word.Caller ∙ caller_told callers t))
wrong_is_unread callers before kind.Base t = by_name (base_of t) word.Base (is_base_name t) (if_told (is_base_name t) t)
wrong_is_unread callers before kind.Name t = by_name (name_of t) word.Name (is_name t) (name_told t)
wrong_is_unread callers before kind.Old t = by_name (old_name_of t) word.Old (is_null t || is_name t) (old_told t)
wrong_is_unread callers before kind.New t = by_name (new_name_of before t) word.New (is_name t && is_new before t) (new_told before t)
wrong_is_unread callers before kind.Given t = by_name (given_of t) word.Given (is_given_name t) (given_told t)
wrong_is_unread callers before kind.Zone t = by_name (base_of t) word.Zone (is_base_name t) (if_told (is_base_name t) t)
wrong_is_unread callers before kind.Byte t = by_limits 0 255 t word.Byte
wrong_is_unread callers before kind.ShowCount t = by_limits 1 64 t word.ShowCount
wrong_is_unread callers before kind.BatchCount t = by_limits 1 4096 t word.BatchCount
wrong_is_unread callers before kind.Place t = by_name (place_of t) word.Place (is_some (place_of t)) refl
wrong_is_unread callers before kind.Range t = by_name (range_of t) word.Range (is_some (range_of t)) refl
wrong_is_unread callers before kind.Bytes t = by_name (shown_of t) word.Bytes (is_some (shown_of t)) refl

nothing_read : (callers : ℕ) (before : List ℕ) (k : Kind) → read_word callers before k [] ≡ None
unfolding read_word
nothing_read callers before kind.Number = refl
nothing_read callers before _ = refl

-- from here on no kinds
or_swap : (a b c d : Bool) → ((a || b) || (c || d)) ≡ ((a || c) || (b || d))
or_swap true b c d = refl
or_swap false true true d = refl
or_swap false true false d = refl
or_swap false false c d = refl

any_or : {A : Type 0} (f g : A → Bool) (ys : List A) → list_any (λ y. f y || g y) ys ≡ (list_any f ys || list_any g ys)
any_or f g [] = refl
any_or f g (y ∷ ys) = ap (λ (b : Bool). (f y || g y) || b) (any_or f g ys) ∙ or_swap (f y) (g y) (list_any f ys) (list_any g ys)

both_told : (o : Option Word) (p : Option (List Word)) → (is_none o || is_none p) ≡ is_none (o >>= λ w. p >>= λ ws. Some (w ∷ ws))
both_told None p = refl
both_told (Some w) None = refl
both_told (Some w) (Some ws) = refl

pub wrong_are_unread : (callers : ℕ) (before : List ℕ) (ks : List Kind) (ts : List (List ℕ)) → length ks ≡ length ts → list_any (λ y. some_wrong callers y before ks ts) flaws ≡ is_none (read_words callers before ks ts)
wrong_are_unread callers before [] [] e = refl
wrong_are_unread callers before [] (t ∷ ts) e = absurd (omega arith)
wrong_are_unread callers before (k ∷ ks) [] e = absurd (omega arith)
wrong_are_unread callers before (k ∷ ks) (t ∷ ts) e =
    any_or (λ y. is_wrong callers before y k t) (λ y. some_wrong callers y t ks ts) flaws
    ∙ ap (λ (b : Bool). b || list_any (λ y. some_wrong callers y t ks ts) flaws) (wrong_is_unread callers before k t)
    ∙ ap (λ (b : Bool). is_none (read_word callers before k t) || b) (wrong_are_unread callers t ks ts (omega arith))
    ∙ both_told (read_word callers before k t) (read_words callers t ks ts)

no_rest : (o : Option Word) (p : Option (List Word)) → p ≡ None → (o >>= λ w. p >>= λ ws. Some (w ∷ ws)) ≡ None
no_rest None p e = refl
no_rest (Some w) p e = rw e refl

pub unequal : (callers : ℕ) (before : List ℕ) (ks : List Kind) (ts : List (List ℕ)) → (length ks ≡ length ts → ⊥) → read_words callers before ks ts ≡ None
unequal callers before [] [] e = absurd (e refl)
unequal callers before [] (t ∷ ts) e = refl
unequal callers before (k ∷ ks) [] e = refl
unequal callers before (k ∷ ks) (t ∷ ts) e = no_rest (read_word callers before k t) (read_words callers t ks ts) (unequal callers t ks ts (λ h. e (omega arith)))

-- words that are read aren't empty
abbrev pub is_empty : List ℕ → Bool
is_empty t = eqb (length t) 0

not_empty : (c : ℕ) (cs : List ℕ) → is_empty (c ∷ cs) ≡ false
not_empty c cs = ne_eqb (length (c ∷ cs)) 0 (λ h. absurd (omega arith))

read_some : (callers : ℕ) (before : List ℕ) (k : Kind) (t : List ℕ) (w : Word) → read_word callers before k t ≡ Some w → is_empty t ≡ false
read_some callers before k [] w h = absurd (let e : None ≡ Some w = sym (nothing_read callers before k) ∙ h in cc)
read_some callers before k (c ∷ cs) w h = not_empty c cs

pub all_some : (callers : ℕ) (before : List ℕ) (ks : List Kind) (ts : List (List ℕ)) (ws : List Word) → read_words callers before ks ts ≡ Some ws → list_any is_empty ts ≡ false
all_some callers before [] [] ws h = refl
all_some callers before [] (t ∷ ts) ws h = absurd cc
all_some callers before (k ∷ ks) [] ws h = absurd cc
all_some callers before (k ∷ ks) (t ∷ ts) ws h =
    let p = bind_parts (read_word callers before k t) (λ w. read_words callers t ks ts >>= λ vs. Some (w ∷ vs)) ws h in
    let q = bind_parts (read_words callers t ks ts) (λ vs. Some (p.0 ∷ vs)) ws p.2 in
    rw (read_some callers before k t p.0 p.1) (all_some callers t ks ts q.0 q.1)

-- the number of a caller
pub caller_unread : (callers : ℕ) (t : List ℕ) → wrong callers [] kind.Caller t ≡ is_none (caller_of callers t)
unfolding read_word
caller_unread callers t = wrong_is_unread callers [] kind.Caller t ∙ ap not (told (caller_of callers t) word.Caller)
