-- Loads that give a place back, links of slots in hand, and pushes.
use Rattle.std.proofs.Common.{◌≡◌, ◌≢◌, ℕ, ◌+◌, ◌*◌, ◌<◌, ◌≤◌, ◌==◌, true, List, [], ◌∷◌, length, get_or, set, Option, Some, None, refl, sym, ap, ◌∙◌, subst, arith, inl, ⊎_elim, length-set, get_or-set_same}
use Rattle.std.proofs.lemmas.List.{set-get_or}
use Rattle.std.proofs.lemmas.Bool.{cases_eq}
use mathlib.Core.Option as m
use lib.ListN.{get_elem?}
use prog.Atomic.{either}
use Rattle.atomic_table.specs.Table.{step, Act, keeps, takes, gives, Allows, stepped, Valid, carried_after, put_back, rest}
use Rattle.atomic_table.proofs.Lists.{exchanged}
use Rattle.mz_ground.specs.Views.{SpanView}
use Rattle.mz_nanoword.specs.declared.word.NanoWord.{NanoWord}
use Rattle.mz_nanoword.specs.Words.{word_of}
use Rattle.mz_nano.specs.declared.view.Geometry.{Geometry}
use Rattle.mz_nano.specs.declared.view.Vacant.{Vacant}
use Rattle.mz_nano.specs.declared.view.Known.{Known}
use Rattle.mz_nano.specs.declared.view.StoredLink.{StoredLink}
use Rattle.mz_nano.specs.declared.view.View.{View}
use Rattle.mz_nano.specs.Lists.{In, without}
use Rattle.mz_nano.specs.Rule.{World, Block, block_of, Home, link_at, home_at, IsPiece, HasSlot, IsBare, BlockKeeps, SeatKeepsAt, RuleWith, Rule, held, vacant, known, stored}
use Rattle.mz_nano.specs.StepEffects.{Standing, clash_noted, place_given, link_stored, pushed, GivesPlace, StoresLink, PushesSlot, slot_of, win}
use Rattle.mz_nano.specs.StepNeeds.{CanPush}
use Rattle.mz_nano.proofs.MemberLemmas.{in_without, without_in}
use Rattle.mz_nano.proofs.OnceLemmas.{once_without, length_without}
use Rattle.mz_nano.proofs.BlockLemmas.{same_block, link_word, word_word, word_link, link_other, link_same, home_other, home_same, home_there}
use Rattle.mz_nano.proofs.RelyLemmas.{Rely, moves}
use Rattle.mz_nano.proofs.SlotSteps.{ready_of, slots_most}
use Rattle.mz_nano.proofs.Whole.{seat_else, slot_to, slot_to-same, slot_to-slot, slot_to-block}
use Rattle.mz_nano.proofs.LoadSteps.{clashes, looks_at}
use Rattle.mz_nano.proofs.PushSteps.{push_z, push_block, push_rely, push_seat}
use Rattle.mz_nano.proofs.SlotSteps.{slot_z, slot_block, slot_rely, settles_seat, link_seat}
use Rattle.mz_nano.proofs.PopAllowed.{nothing}

pub only : {A : Type 0} (xs : List A) (y x : A) → xs ≡ y ∷ [] → In x xs → x ≡ y
only xs y x e h = ⊎_elim (λ (q : x ≡ y). q) (λ (q : ⊥). absurd q) (subst (In x) e h)

module _ (key : Geometry) (slots' id : ℕ) (me : Standing) where
  -- a load that gives back the empty place of a slot in hand
  pub settles : (b j0 c : ℕ) (xs : List (ℕ × Option SpanView)) → me.0.live ≡ true → In (held b j0 c) me.0.hand → me.0.vacant ≡ vacant b j0 ∷ [] → me.1 ≡ (b * 1025 + j0, None) ∷ xs
      → Allows (Rule key) slots' id me b (λ n. n) (GivesPlace (step slots' b 0 0 m.none) me)
  settles b j0 c xs live mine outs carried s (who, kept) sized at small =
      let f = kept.seats id me.0 at live in
      let n : ℕ = get_or s.words b 0 in
      let lt : b < key.blocks = f.inside b j0 c mine in
      let g = f.at b lt in
      let ih = g.hand j0 c mine in
      let z : Block = block_of key s.words s.homes who b in
      let ok = kept.blocks b lt in
      let r = ready_of key b z ok ih.ready in
      let few' : j0 < 1024 = let t = r.inside j0 (λ e. let w = ih.who in absurd (omega arith)) in let u = slots_most z.word.state in omega arith in
      let homes' : List (m.Option (Option SpanView)) = set s.homes (b * 1025 + j0) (m.some None) in
      let h' : ℕ → Home = home_at homes' b in
      let hs : (j : ℕ) → j ≢ j0 → z.homes j ≡ h' j = λ j n. sym (home_other s.homes b j0 (m.some None) b j (omega arith) (λ _ e. n e)) in
      let ls : (j : ℕ) → j ≢ j0 → z.links j ≡ z.links j = λ j n. refl in
      let tiny = ok.small j0 in
      let bare : IsBare (h' j0) = home_same s.homes b j0 (m.some None) key.blocks (omega arith) lt kept.homes in
      let v1 : View = record me.0 { vacant = [] } in
      let v' : View = place_given me.0 b n in
      let seat : SeatKeepsAt key id v' b (block_of key s.words homes' who b) = looks_at key slots' id (v1, me.1) n b b (block_of key s.words homes' who b) (λ _. refl)
      (settles_seat key b id j0 z z.links h' ih.who ls hs tiny ok me.0 ih.ready outs bare (λ j. refl) v1 refl refl refl refl refl refl refl g) in
      let kept' : RuleWith key record { words = s.words; homes = homes'; views = set s.views id v' } who =
      moves key s who who id me.0 v' b s.words homes' kept at live live refl (length-set s.homes (b * 1025 + j0) (m.some None)) (refl, refl) (f.inside, f.once)
      (λ x l n. same_block (block_of key s.words s.homes who x) (block_of key s.words homes' who x) refl (λ j. refl) (λ j. sym (home_other s.homes b j0 (m.some None) x j (omega arith) (λ e _. n e))) (λ j. refl))
      (slot_block key b id j0 z z.links h' ih.who ls hs tiny ok ih.ready)
      (λ x y n t. seat_else key id x y me.0 v'
      (λ j c h. h) (λ j c h. h) (λ j h. absurd (n (ap (λ (o : Vacant). o.block) (only me.0.vacant (vacant b j0) (vacant x j) outs h))))
      (λ w h. ⊎_elim (λ (q : known x w ≡ known b (get_or s.words b 0)). absurd (n (ap (λ (o : Known). o.block) q))) (λ (q : In (known x w) me.0.known). q) h)
      (λ w l h. h) (λ j l h. h) (λ c k h. h) (λ c k h. h) (λ h. h) t)
      seat
      (slot_rely key b id j0 z z.links h' ih.who ls hs tiny ok)
      (λ j n. inl refl) in (
        v',
        gives,
        tt,
        (
          who,
          subst (λ (ws : List ℕ). RuleWith key record { words = ws; homes = put_back s.homes me.1; views = set s.views id v' } who) (sym (set-get_or s.words b 0))
              (subst (λ (ys : List (ℕ × Option SpanView)). RuleWith key record { words = s.words; homes = put_back s.homes ys; views = set s.views id v' } who) (sym carried) kept'),
        ),
        record { view = refl; carried = refl },
      )

  -- a store of the link of a slot in hand, which takes its empty place
  pub links : (b j0 c n : ℕ) → me.0.live ≡ true → In (held b j0 c) me.0.hand → me.0.vacant ≡ [] → n ≤ 1024
      → Allows (Rule key) slots' id me (me.0.geometry.blocks + b * 1024 + j0) (λ _. n) (λ _. StoresLink (step slots' (me.0.geometry.blocks + b * 1024 + j0) n 0 m.none) me n)
  links b j0 c n live mine outs tiny' s (who, kept) sized at small =
      let f = kept.seats id me.0 at live in
      let ib : key.blocks ≡ me.0.geometry.blocks = ap (λ (p : Geometry). p.blocks) (sym f.geometry) in
      let lt : b < key.blocks = f.inside b j0 c mine in
      let g = f.at b lt in
      let ih = g.hand j0 c mine in
      let z : Block = block_of key s.words s.homes who b in
      let ok = kept.blocks b lt in
      let r = ready_of key b z ok ih.ready in
      let few' : j0 < 1024 = let t = r.inside j0 (λ e. let w = ih.who in absurd (omega arith)) in let u = slots_most z.word.state in omega arith in
      let i : ℕ = key.blocks + b * 1024 + j0 in
      let words' : List ℕ = set s.words i n in
      let homes' : List (m.Option (Option SpanView)) = set s.homes (b * 1025 + j0) m.none in
      let h' : ℕ → Home = home_at homes' b in
      let l' : ℕ → ℕ = link_at key.blocks words' b in
      let hs : (j : ℕ) → j ≢ j0 → z.homes j ≡ h' j = λ j n. sym (home_other s.homes b j0 m.none b j (omega arith) (λ _ e. n e)) in
      let ls : (j : ℕ) → j ≢ j0 → z.links j ≡ l' j = λ j n'. sym (link_other key.blocks s.words b j0 n b j few' (λ _ e. n' e)) in
      let is : l' j0 ≡ n = link_same key.blocks s.words b j0 n few' lt kept.words in
      let tiny : l' j0 ≤ 1024 = subst (λ (x : ℕ). x ≤ 1024) (sym is) tiny' in
      let v' : View = link_stored me.0 b j0 n in
      let z' : Block = block_of key words' homes' who b in
      let same : slot_z key b id j0 z l' h' ih.who ls hs tiny ok ≡ z' = same_block (record { word = z.word; links = l'; homes = h'; who = z.who }) z' (ap word_of (sym (word_link key.blocks s.words b j0 n b lt))) (λ j. refl) (λ j. refl) (λ j. refl) in
      let kept' : RuleWith key record { words = words'; homes = homes'; views = set s.views id v' } who =
      moves key s who who id me.0 v' b words' homes' kept at live live (length-set s.words i n) (length-set s.homes (b * 1025 + j0) m.none) (refl, refl) (f.inside, f.once)
      (λ x l n'. same_block (block_of key s.words s.homes who x) (block_of key words' homes' who x) (ap word_of (sym (word_link key.blocks s.words b j0 n x l))) (λ j. sym (link_other key.blocks s.words b j0 n x j few' (λ e _. n' e)))
      (λ j. sym (home_other s.homes b j0 m.none x j (omega arith) (λ e _. n' e))) (λ j. refl))
      (subst (BlockKeeps key b) same (slot_block key b id j0 z l' h' ih.who ls hs tiny ok ih.ready))
      (λ x y n' t. seat_else key id x y me.0 v'
      (λ j c h. h) (λ j c h. h) (λ j h. absurd (nothing me.0.vacant outs (vacant x j) h)) (λ w h. h) (λ w l h. h)
      (λ j l h. ⊎_elim (λ (q : stored x j l ≡ stored b j0 n). absurd (n' (ap (λ (o : StoredLink). o.block) q))) (λ (q : ⊥). absurd q) h)
      (λ c k h. h) (λ c k h. h) (λ h. h) t)
      (subst (SeatKeepsAt key id v' b) same (link_seat key b id j0 z l' h' ih.who ls hs tiny ok me.0 n ih.ready outs is g))
      (λ x n'. subst (Rely key b x z) same (slot_rely key b id j0 z l' h' ih.who ls hs tiny ok x n'))
      (λ j n'. inl refl) in (
        v',
        takes (b * 1025 + j0) None,
        home_there s.homes b j0 (m.some (m.some None)) (omega arith) (ih.bare (nothing me.0.vacant outs (vacant b j0))),
        (who, subst (λ (x : ℕ). RuleWith key record { words = set s.words (x + b * 1024 + j0) n; homes = homes'; views = set s.views id v' } who) ib kept'),
        record {
          is = λ b' j' e l.
              let eb : b ≡ b' = omega arith in let ej : j0 ≡ j' = omega arith in
              let T : Standing → Type 0 = λ t. (v', (b * 1025 + j0, None) ∷ me.1) ≡ t in
              subst (λ (x : ℕ). T (link_stored me.0 x j' n, (x * 1025 + j', None) ∷ me.1)) eb (subst (λ (y : ℕ). T (link_stored me.0 b y n, (b * 1025 + y, None) ∷ me.1)) ej refl);
        },
      )

module _ (key : Geometry) (slots' id : ℕ) (me : Standing) where
  push_count : (b new : ℕ) (s : World) (who : ℕ → ℕ → ℕ) → RuleWith key s who → get_elem? s.views id ≡ m.some me.0 → me.0.live ≡ true → (c : ℕ) → In (held b (slot_of new) c) me.0.hand → length (without b (slot_of new) me.0.hand) + 1 ≡ length me.0.hand
  push_count b new s who kept at live c h = length_without b (slot_of new) c me.0.hand (kept.seats id me.0 at live).once h

  pushes_hit : (b j0 c old new : ℕ) → CanPush me b j0 c old new → (s : World) (who : ℕ → ℕ → ℕ) → RuleWith key s who → get_elem? s.views id ≡ m.some me.0 → get_or s.words b 0 ≡ old
      → (w : View) × (a : Act (Option SpanView)) × Valid s.homes me.1 a × Rule key (stepped s b new id me.1 w a) × PushesSlot (step slots' b old new m.none) me old (w, carried_after me.1 a)
  pushes_hit b j0 c old new can s who kept at is =
      let f = kept.seats id me.0 at can.live in
      let lt : b < key.blocks = f.inside b j0 c can.mine in
      let g = f.at b lt in
      let ih = g.hand j0 c can.mine in
      let z : Block = block_of key s.words s.homes who b in
      let ok = kept.blocks b lt in
      let r = ready_of key b z ok ih.ready in
      let few' : j0 < 1024 = let t = r.inside j0 (λ e. let w = ih.who in absurd (omega arith)) in let u = slots_most z.word.state in omega arith in
      let ez : word_of old ≡ z.word = sym (ap word_of is) in
      let x' : NanoWord = word_of new in
      let gm : ℕ = me.0.geometry.most_gen in
      let P : NanoWord → Type 0 = λ x. (x'.free ≡ x.free + 1) × (x'.state ≡ x.state) × (x.generation ≤ x'.generation) × (x'.generation < gm → x'.generation ≡ x.generation + 1) × (z.links j0 ≡ x.next) in
      let p : P z.word = subst P ez (can.free, can.state, can.gen, can.rises, g.stored j0 (word_of old).next can.stored ih.who) in
      let rises : x'.generation < key.most_gen → x'.generation ≡ z.word.generation + 1 = subst (λ (q : Geometry). x'.generation < q.most_gen → x'.generation ≡ z.word.generation + 1) f.geometry p.3 in
      let most' : x'.generation ≤ key.most_gen = subst (λ (q : Geometry). x'.generation ≤ q.most_gen) f.geometry can.most in
      let words' : List ℕ = set s.words b new in
      let here : m.Option (Option SpanView) = m.some (Some can.span) in
      let homes' : List (m.Option (Option SpanView)) = set s.homes (b * 1025 + j0) here in
      let who' : ℕ → ℕ → ℕ = slot_to who b j0 0 in
      let v' : View = pushed me.0 b j0 old new in
      let z' : Block = block_of key words' homes' who' b in
      let h' : ℕ → Home = home_at homes' b in
      let w' : ℕ → ℕ = who' b in
      let hs : (j : ℕ) → j ≢ j0 → z.homes j ≡ h' j = λ j n. sym (home_other s.homes b j0 here b j (omega arith) (λ _ e. n e)) in
      let ws : (j : ℕ) → j ≢ j0 → z.who j ≡ w' j = λ j n. slot_to-slot who b j0 0 b j n in
      let gone : w' j0 ≡ 0 = slot_to-same who b j0 0 in
      let home : HasSlot key b z.word.state j0 (h' j0) = (
        can.span,
        home_same s.homes b j0 here key.blocks (omega arith) lt kept.homes,
        subst (λ (q : Geometry). IsPiece q b (16 * z.word.state * j0) (16 * z.word.state) can.span) f.geometry (subst (λ (d : ℕ). IsPiece me.0.geometry b (16 * d * j0) (16 * d) can.span) (sym ih.state) can.piece),
      ) in
      let wide : b < length s.words = let e = kept.words in omega arith in
      let same : push_z key b id j0 z x' h' w' ih.ready ih.who can.next p.0 p.1 p.2 most' rises p.4 home hs ws gone ok ≡ z' =
      same_block (record { word = x'; links = z.links; homes = h'; who = w' }) z' (ap word_of (sym (get_or-set_same s.words b new 0 wide))) (λ j. sym (link_word key.blocks s.words b new b j lt)) (λ j. refl) (λ j. refl) in
      let kept' : RuleWith key record { words = words'; homes = homes'; views = set s.views id v' } who' =
      moves key s who who' id me.0 v' b words' homes' kept at can.live can.live (length-set s.words b new) (length-set s.homes (b * 1025 + j0) here) (refl, refl)
      ((λ x j d h. f.inside x j d (in_without b j0 (held x j d) me.0.hand h).0), once_without b j0 me.0.hand f.once)
      (λ x l n. same_block (block_of key s.words s.homes who x) (block_of key words' homes' who' x) (ap word_of (sym (word_word s.words b new x n))) (λ j. sym (link_word key.blocks s.words b new x j lt))
      (λ j. sym (home_other s.homes b j0 here x j (omega arith) (λ e _. n e))) (λ j. slot_to-block who b j0 0 x j n))
      (subst (BlockKeeps key b) same (push_block key b id j0 z x' h' w' ih.ready ih.who can.next p.0 p.1 p.2 most' rises p.4 home hs ws gone ok))
      (λ x y n t. seat_else key id x y me.0 v'
      (λ j d h. (in_without b j0 (held x j d) me.0.hand h).0)
      (λ j d h. without_in b j0 (held x j d) me.0.hand (λ e. n e.0) h)
      (λ j h. absurd (n (ap (λ (o : Vacant). o.block) (only me.0.vacant (vacant b j0) (vacant x j) can.outs h))))
      (λ w h. h) (λ w l h. h) (λ j l h. absurd h) (λ d k h. h) (λ d k h. h) (λ h. h) t)
      (subst (SeatKeepsAt key id v' b) same (push_seat key b id j0 z x' h' w' ih.ready ih.who can.next p.0 p.1 p.2 most' rises p.4 home hs ws gone ok me.0 (win b old new ∷ me.0.wins) can.outs g))
      (λ x n. subst (Rely key b x z) same (push_rely key b id j0 z x' h' w' ih.ready ih.who can.next p.0 p.1 p.2 most' rises p.4 home hs ws gone ok x n))
      (λ j n. ⊎_elim (λ (e : j ≡ j0). absurd (n (ap w' e ∙ gone))) (λ (e : j ≡ j0 → ⊥). inl (sym (ws j e))) (cases_eq j j0)) in
      let ej : slot_of new ≡ j0 = let e = can.next in omega arith in (
        v',
        gives,
        tt,
        (who', subst (λ (ys : List (ℕ × Option SpanView)). RuleWith key record { words = words'; homes = put_back s.homes ys; views = set s.views id v' } who') (sym can.carried) kept'),
        record {
          hit = λ _. let T : Standing → Type 0 = λ t. (v', rest me.1) ≡ t in subst (λ (j : ℕ). T (pushed me.0 b j old new, rest me.1)) (sym ej) refl;
          count = push_count b new s who kept at can.live;
          miss = λ n. absurd (n refl);
        },
      )

  -- an exchange in a push
  pub pushes : (b j0 c old new : ℕ) → CanPush me b j0 c old new → Allows (Rule key) slots' id me b (λ n. either (n == old) new n) (PushesSlot (step slots' b old new m.none) me)
  pushes b j0 c old new can s (who, kept) sized at small =
      let n : ℕ = get_or s.words b 0 in
      let F : ℕ → Type 0 = λ x. (w : View) × (a : Act (Option SpanView)) × Valid s.homes me.1 a × Rule key (stepped s b x id me.1 w a) × PushesSlot (step slots' b old new m.none) me n (w, carried_after me.1 a) in
      exchanged n old new F
      (λ (e : n ≡ old). let h = pushes_hit b j0 c old new can s who kept at e in (h.0, h.1, h.2, h.3, subst (λ (x : ℕ). PushesSlot (step slots' b old new m.none) me x (h.0, carried_after me.1 h.1)) (sym e) h.4))
      (λ (e : n ≢ old). (clash_noted me.0 b old n, keeps, tt, clashes key slots' id me s who b old can.live kept at, record { hit = λ y. absurd (e y); count = push_count b new s who kept at can.live; miss = λ y. refl }))
