-- Exchanges of pops, as the table asks for them.
use Rattle.std.proofs.Common.{◌≡◌, ◌≢◌, ℕ, ◌+◌, ◌-◌, ◌*◌, ◌<◌, ◌≤◌, ◌==◌, List, [], ◌∷◌, length, get_or, set, Option, Some, refl, sym, ap, ◌∙◌, subst, arith, inl, inr, ⊎_elim, length-set, get_or-set_same}
use Rattle.std.proofs.lemmas.Bool.{cases_eq}
use mathlib.Core.Option as m
use lib.ListN.{get_elem?}
use prog.Atomic.{either}
use Rattle.atomic_table.specs.Table.{step, Act, keeps, takes, Allows, stepped, Valid, carried_after}
use Rattle.atomic_table.proofs.Lists.{exchanged}
use Rattle.mz_ground.specs.Views.{SpanView}
use Rattle.mz_nanoword.specs.declared.word.NanoWord.{NanoWord}
use Rattle.mz_nanoword.specs.Words.{word_of}
use Rattle.mz_nano.specs.declared.view.Geometry.{Geometry}
use Rattle.mz_nano.specs.declared.view.Held.{Held}
use Rattle.mz_nano.specs.declared.view.View.{View}
use Rattle.mz_nano.specs.Lists.{In}
use Rattle.mz_nano.specs.Rule.{World, Block, block_of, Home, home_at, slots, IsPiece, HasSlot, BlockKeeps, KnownKeeps, IsReady, SeatKeepsAt, RuleWith, Rule, held, vacant}
use Rattle.mz_nano.specs.StepEffects.{Standing, clash_noted, popped, PopsSlot, slot_of, win}
use Rattle.mz_nano.specs.StepNeeds.{CanPop}
use Rattle.mz_nano.proofs.BlockLemmas.{same_block, link_word, word_word, home_other, home_there}
use Rattle.mz_nano.proofs.RelyLemmas.{Rely, moves}
use Rattle.mz_nano.proofs.SlotSteps.{knows_present, ready_of, first_in, slots_most}
use Rattle.mz_nano.proofs.Whole.{seat_else, slot_to, slot_to-same, slot_to-slot, slot_to-block}
use Rattle.mz_nano.proofs.LoadSteps.{clashes, hand_room}
use Rattle.mz_nano.proofs.PopSteps.{pop_z, pop_block, pop_rely, pop_seat}

pub nothing : {A : Type 0} (xs : List A) → xs ≡ [] → (x : A) → In x xs → ⊥
nothing xs e x h = subst (In x) e h

first_here : (key : Geometry) (b : ℕ) (z : Block) (j0 : ℕ) → BlockKeeps key b z → IsReady z.word → 1 ≤ z.word.next → j0 ≡ z.word.next - 1 → (j0 < slots z.word.state) × (z.who j0 ≡ 0) × HasSlot key b z.word.state j0 (z.homes j0)
first_here key b z j0 ok y l e = let r = ready_of key b z ok y in subst (λ (j : ℕ). (j < slots z.word.state) × (z.who j ≡ 0) × HasSlot key b z.word.state j (z.homes j)) (sym e) (r.here (z.word.next - 1) (first_in z.links z.word.next r.chain r.links l))

module _ (key : Geometry) (slots' id : ℕ) (me : Standing) where
  pops_hit : (b old new l : ℕ) → CanPop me.0 b old new l → (s : World) (who : ℕ → ℕ → ℕ) → RuleWith key s who → get_elem? s.views id ≡ m.some me.0 → get_or s.words b 0 ≡ old
      → (w : View) × (a : Act (Option SpanView)) × Valid s.homes me.1 a × Rule key (stepped s b new id me.1 w a) × PopsSlot (step slots' b old new m.none) me old (w, carried_after me.1 a)
  pops_hit b old new l can s who kept at is =
      let f = kept.seats id me.0 at can.live in
      let pk : key ≡ me.0.geometry = sym f.geometry in
      let lt : b < key.blocks = subst (λ (p : Geometry). b < p.blocks) f.geometry can.block in
      let z : Block = block_of key s.words s.homes who b in
      let ez : word_of old ≡ z.word = sym (ap word_of is) in
      let P : NanoWord → Type 0 = λ x. IsReady x × (1 ≤ x.next) × (slot_of old ≡ x.next - 1) × (x.generation < key.most_gen) × ((word_of new).free ≡ x.free - 1) × ((word_of new).state ≡ x.state) × ((word_of new).generation ≡ x.generation + 1) in
      let p : P z.word = subst P ez (can.ready, can.first, refl, subst (λ (p : Geometry). (word_of old).generation < p.most_gen) f.geometry can.below, can.free, can.state, can.gen) in
      let j0 : ℕ = slot_of old in
      let ok = kept.blocks b lt in
      let g = f.at b lt in
      let su = g.first_links old l can.first_links in
      let link : z.links j0 ≡ l = su.link can.ready can.first (ap (λ (x : NanoWord). x.generation) ez) (subst (λ (p : Geometry). (word_of old).generation < p.most_gen) f.geometry can.below) in
      let x' : NanoWord = word_of new in
      let next' : x'.next ≡ z.links j0 = can.next ∙ sym link in
      let here = first_here key b z j0 ok p.0 p.1 p.2 in
      let few' : j0 < 1024 = let m = slots_most z.word.state in let h = here.0 in omega arith in
      let home = here.2 in
      let words' : List ℕ = set s.words b new in
      let homes' : List (m.Option (Option SpanView)) = set s.homes (b * 1025 + j0) m.none in
      let who' : ℕ → ℕ → ℕ = slot_to who b j0 (id + 1) in
      let v' : View = popped me.0 b j0 (word_of old).state old new in
      let z' : Block = block_of key words' homes' who' b in
      let h' : ℕ → Home = home_at homes' b in
      let w' : ℕ → ℕ = who' b in
      let hs : (j : ℕ) → j ≢ j0 → z.homes j ≡ h' j = λ j n. sym (home_other s.homes b j0 m.none b j (omega arith) (λ _ e. n e)) in
      let ws : (j : ℕ) → j ≢ j0 → z.who j ≡ w' j = λ j n. slot_to-slot who b j0 (id + 1) b j n in
      let got : w' j0 ≡ id + 1 = slot_to-same who b j0 (id + 1) in
      let wide : b < length s.words = let e = kept.words in omega arith in
      let same : pop_z key b id j0 z x' h' w' p.0 p.1 p.2 p.3 next' p.4 p.5 p.6 hs ws got ok ≡ z' =
      same_block (record { word = x'; links = z.links; homes = h'; who = w' }) z' (ap word_of (sym (get_or-set_same s.words b new 0 wide))) (λ j. sym (link_word key.blocks s.words b new b j lt)) (λ j. refl) (λ j. refl) in
      let ec : (word_of old).state ≡ z.word.state = ap (λ (x : NanoWord). x.state) ez in
      let seat : SeatKeepsAt key id v' b z' = subst (λ (c : ℕ). SeatKeepsAt key id (popped me.0 b j0 c old new) b z') (sym ec) (subst (SeatKeepsAt key id (popped me.0 b j0 z.word.state old new) b) same
      (pop_seat key b id j0 z x' h' w' p.0 p.1 p.2 p.3 next' p.4 p.5 p.6 hs ws got ok me.0 (win b old new ∷ me.0.wins) can.none g)) in
      let kept' : RuleWith key record { words = words'; homes = homes'; views = set s.views id v' } who' =
      moves key s who who' id me.0 v' b words' homes' kept at can.live can.live (length-set s.words b new) (length-set s.homes (b * 1025 + j0) m.none) (refl, refl) (
        (λ x j c h. ⊎_elim (λ (q : held x j c ≡ held b j0 (word_of old).state). let e : x ≡ b = ap (λ (o : Held). o.block) q in subst (λ (y : ℕ). y < key.blocks) (sym e) lt) (λ (q : In (held x j c) me.0.hand). f.inside x j c q) h),
        ((λ c h. let t = (g.hand j0 c h).who in let u = here.1 in absurd (omega arith)), f.once),
      )
      (λ x l n. same_block (block_of key s.words s.homes who x) (block_of key words' homes' who' x) (ap word_of (sym (word_word s.words b new x n))) (λ j. sym (link_word key.blocks s.words b new x j lt))
      (λ j. sym (home_other s.homes b j0 m.none x j (omega arith) (λ e _. n e))) (λ j. slot_to-block who b j0 (id + 1) x j n))
      (subst (BlockKeeps key b) same (pop_block key b id j0 z x' h' w' p.0 p.1 p.2 p.3 next' p.4 p.5 p.6 hs ws got ok))
      (λ x y n t. seat_else key id x y me.0 v'
      (λ j c h. ⊎_elim (λ (q : held x j c ≡ held b j0 (word_of old).state). absurd (n (ap (λ (o : Held). o.block) q))) (λ (q : In (held x j c) me.0.hand). q) h)
      (λ j c h. inr h) (λ j h. absurd (nothing me.0.vacant can.none (vacant x j) h)) (λ w h. h) (λ w l h. h) (λ j l h. absurd h) (λ c k h. h) (λ c k h. h) (λ h. h) t)
      seat
      (λ x n. subst (Rely key b x z) same (pop_rely key b id j0 z x' h' w' p.0 p.1 p.2 p.3 next' p.4 p.5 p.6 hs ws got ok x n))
      (λ j n. ⊎_elim (λ (e : j ≡ j0). inr (ap w' e ∙ got)) (λ (e : j ≡ j0 → ⊥). inl (sym (ws j e))) (cases_eq j j0)) in (
        v',
        takes (b * 1025 + j0) (Some home.0),
        home_there s.homes b j0 (m.some (m.some (Some home.0))) (omega arith) home.1,
        (who', kept'),
        record {
          hit = λ _. record {
            span = home.0;
            view = refl;
            carried = refl;
            piece = subst (λ (q : Geometry). IsPiece q b (16 * (word_of old).state * j0) (16 * (word_of old).state) home.0) pk (subst (λ (c : ℕ). IsPiece key b (16 * c * j0) (16 * c) home.0) (sym ec) home.2);
          };
          inside = λ _. subst (λ (c : ℕ). j0 < slots c) (sym ec) here.0;
          fresh = λ _ c h. let t = (g.hand j0 c h).who in let u = here.1 in absurd (omega arith);
          knows = knows_present me.0.geometry.most_gen (word_of old) (word_of old) refl;
          room = hand_room key id me s who kept at can.live;
          miss = λ n. absurd (n refl);
        },
      )

  pops_knows : (b old new l : ℕ) → CanPop me.0 b old new l → (s : World) (who : ℕ → ℕ → ℕ) → RuleWith key s who → get_elem? s.views id ≡ m.some me.0 → KnownKeeps me.0.geometry.most_gen (word_of (get_or s.words b 0)) (word_of old)
  pops_knows b old new l can s who kept at =
      let f = kept.seats id me.0 at can.live in
      let lt : b < key.blocks = subst (λ (p : Geometry). b < p.blocks) f.geometry can.block in
      subst (λ (p : Geometry). KnownKeeps p.most_gen (word_of (get_or s.words b 0)) (word_of old)) (sym f.geometry) ((f.at b lt).knows old can.known)

  -- an exchange in a pop
  pub pops : (b old new l : ℕ) → CanPop me.0 b old new l → Allows (Rule key) slots' id me b (λ n. either (n == old) new n) (PopsSlot (step slots' b old new m.none) me)
  pops b old new l can s (who, kept) sized at small =
      let n : ℕ = get_or s.words b 0 in
      let F : ℕ → Type 0 = λ x. (w : View) × (a : Act (Option SpanView)) × Valid s.homes me.1 a × Rule key (stepped s b x id me.1 w a) × PopsSlot (step slots' b old new m.none) me n (w, carried_after me.1 a) in
      exchanged n old new F
      (λ (e : n ≡ old). let h = pops_hit b old new l can s who kept at e in (h.0, h.1, h.2, h.3, subst (λ (x : ℕ). PopsSlot (step slots' b old new m.none) me x (h.0, carried_after me.1 h.1)) (sym e) h.4))
      (λ (e : n ≢ old). (clash_noted me.0 b old n, keeps, tt, clashes key slots' id me s who b old can.live kept at, record { hit = λ y. absurd (e y); inside = λ y. absurd (e y); fresh = λ y. absurd (e y); knows = pops_knows b old new l can s who kept at; room = hand_room key id me s who kept at can.live; miss = λ y. refl }))
