-- A `Vec` of bytes and the bytes that it lies over: at a `Vec` with a block of its own, and at calls of `lodge` and `dislodge`. Assumes `Logic`.
use Rattle.std.proofs.Common.{◌≡◌, ℕ, ◌+◌, ◌-◌, ◌*◌, ◌^◌, ◌<◌, ◌≤◌, List, [], ◌∷◌, length, true, refl, sym, ap, ◌∙◌, arith, add-zero, Vec}
use Rattle.std.proofs.lemmas.Bool.{ne_eqb, not_from_false}
use Rattle.std.proofs.lemmas.List.{with_items_is}
use seplogic.Ra.Ura.{Ura}
use mir.Syntax.{w8, w64, ty_int, ty_array}
use mir.Val.{Val, vint, vptr}
use base.Fraction.{full_share}
use base.Logic.{SProp, ent, sep, wand, ex, guard, emp, never, id⊢}
use base.Fml.{ftrue, fsep, feq, fall, fwand, flft, froom}
use prog.Memory.{Memory}
use prog.Routine.{Routine}
use contract.Monad.{Fun, fact, fact_i}
use contract.BorrowLft.{◌⊑◌, ⊑_refl}
use types.Logic.{Logic, sem}
use types.Kit.{‵, raw, ◌⊛◌, some, later, ◌$◌, ◌∵◌, !, qed, move, keep, use0, use1, drop, frame, each, assume, split, split3, join, pick, fsplit, fjoin, fjoin3, feq_l, feq_i, flt_l, flt_i, rewrite, check, show, await, updating, now, done}
use denote.Exit.{no, left}
use denote.RattleType.{RattleType}
use denote.Builtin.{u8, usize}
use denote.Array.{Array}
use denote.Param.{param}
use denote.Param.Laws.{Laws, of_field}
use denote.Param.Shared.{copy_shared}
use denote.RawPtr.{Ptr, block_ptr, lies_at, in_block, in_a_block}
use denote.RawPtr.Bytes.{bytes, bytes_apart, bytes_whole}
use denote.Steps.{only, nothing, heard}
use denote.Struct.Field.{u8-field}
use denote.Struct.Laws.{u8-laws, u8-copy}
use denote.Triple.Spec.{triple_of}
use denote.Triple.Statement.{Contract}
use Rattle.std.specs.Allocator.{block_with_items}
use Rattle.std.specs.Vec.{with_items}
use Rattle.std.specs.contracts.alloc.Global as G
use Rattle.std.specs.contracts.impls.GlobalAllocator.TheImpl as GA
use Rattle.std.proofs.alloc.Global.TheLaws as global-laws
use Rattle.std_alloc.specs.Vec.Ownership.{lodged, owns_if, has_block}
use Rattle.std_alloc.specs.declared.vec.lodged.Lodged.{Lodged}
use Rattle.std_alloc.specs.contracts.vec.Vec as V
use Rattle.std_alloc.specs.contracts.vec.lodged.Lodged as L
use Rattle.std_alloc.specs.contracts.vec.lodged.LodgedAllocator.TheImpl as LA
use Rattle.std_alloc.specs.contracts.vec.lodge as LG
use Rattle.std_alloc.specs.contracts.vec.lodged.Vec+T+Lodged.dislodge as DL
use Rattle.std_alloc.proofs.vec.Vec.TheLaws as vec-laws
use Rattle.std_alloc.proofs.vec.lodged.Lodged.TheLaws as lodged-laws
use Rattle.mz_base.specs.Site.{Site}
use Rattle.mz_ground.specs.Ownership.{lies_in}
use Rattle.mz_ground.specs.contracts.raw.Sole as Sole
use Rattle.mz_ground.proofs.Walks.{bare, single, makes_single}

abbrev pub byte-laws : Laws u8
byte-laws = of_field u8-field u8-laws refl (copy_shared u8-field u8-copy)

-- a `Vec` with a block of its own
abbrev pub Whole : RattleType
Whole = V.the_row u8 G.the_row GA.ghosts

abbrev pub whole-laws : Laws Whole
whole-laws = vec-laws.the_row_laws u8 G.the_row GA.ghosts byte-laws global-laws.the_row_laws

-- a `Vec` over bytes of something else
abbrev pub Guest : RattleType
Guest = V.the_row u8 L.the_row LA.ghosts

abbrev pub guest-laws : Laws Guest
guest-laws = vec-laws.the_row_laws u8 L.the_row LA.ghosts byte-laws lodged-laws.the_row_laws

-- a capacity that isn't 0 has a block
blocked : (c : ℕ) → 0 < c → has_block c ≡ true
blocked c h = not_from_false _ (ne_eqb c 0 (λ e. omega arith))

module _ {M : Type 1} {𝓤 : Ura M} (𝓛 : Logic 𝓤) where
  abbrev ⟦◌⟧ : base.Fml.Fml → SProp 𝓤
  ⟦ P ⟧ = sem 𝓛 P

  -- an array in memory is its bytes
  as_bytes : (n : ℕ) (xs : List ℕ) (b o : ℕ) → ent 𝓤 ⟦ lies_at (Array u8 n) full_share (block_ptr b o) xs ⟧ ⟦ bytes full_share xs b o ⟧
  as_bytes n xs b o =
      qed 𝓛 (‵ (lies_at (Array u8 n) full_share (block_ptr b o) xs) ∷ []) ∵ use1 𝓛 (‵ (fsep (feq ℕ (length xs) n) (bytes full_share xs b o))) (bytes_apart 𝓛 full_share n xs b o) $
      fsplit ! $ drop ! $ done !

  as_array : (n : ℕ) (xs : List ℕ) (b o : ℕ) → length xs ≡ n → ent 𝓤 ⟦ bytes full_share xs b o ⟧ ⟦ lies_at (Array u8 n) full_share (block_ptr b o) xs ⟧
  as_array n xs b o e =
      qed 𝓛 (‵ (bytes full_share xs b o) ∷ []) ∵ feq_i ! ℕ (length xs) n e $ fjoin ! $
      use1 𝓛 (‵ (lies_at (Array u8 n) full_share (block_ptr b o) xs)) (bytes_whole 𝓛 full_share n xs b o) $ done !

  -- the space that a `Vec` becomes
  module _ (v : Vec ℕ (G.the_row).Denot) (γ : ℕ) where
    abbrev pub site_at : ℕ × ℕ → Site
    site_at p = record { name = γ; block = p.0; origin = p.1; size = v.len }

    abbrev pub Carved : Val → ℕ × ℕ → SProp 𝓤
    Carved u p = guard 𝓤 (v.ptr ≡ block_ptr p.0 p.1) (sep 𝓤 ⟦ lies_in (site_at p) 0 v.items ⟧ ⟦ Sole.the_own (site_at p) (single u ∷ []) ⟧)

    -- its bytes, and what waits for them
    pub carve : (u : Val) → 0 < v.len → ent 𝓤 ⟦ Whole.own_val v (u ∷ []) ⟧ (ex 𝓤 (Carved u))
    carve u filled =
        let live : has_block v.cap ≡ true = blocked v.cap (omega (arith, v.ok.1)) in
        let t = GA.ghosts.dealloc_token v.alloc in
        let Blk = λ (p : Ptr) (xs : List ℕ). block_with_items t u8 p v.len v.cap xs in
        qed 𝓛 (‵ (Whole.own_val v (u ∷ [])) ∷ []) ∵ fsplit ! $ move ! (1 ∷ []) $ fsplit ! $ move ! (1 ∷ []) $
        in_a_block ! v.ptr (λ p. in_block p (owns_if (has_block v.cap) (Blk p v.items))) (id⊢ 𝓤 (never 𝓤)) (λ b o at.
        let s = site_at (b, o) in
        let Given = λ (ys : List ℕ). fsep (feq ℕ (length ys) v.len) (lies_in s 0 ys) in
        let Back = λ (ys : List ℕ). (bare (Whole ∷ [])).own_val (with_items v ys, tt) (single u ∷ []) in
        let here : o ≡ o + 0 = sym (add-zero o) in
        rewrite ! 0 (λ y. ‵ (owns_if y (Blk (block_ptr b o) v.items))) live refl $ fsplit ! $
        use1 𝓛 (‵ (bytes full_share v.items b o)) (as_bytes v.len v.items b o) $ rewrite ! 0 (λ k. ‵ (bytes full_share v.items b k)) here refl $
        show ! (Carved u) (b, o) $ check ! at $ frame ! $
        -- [the spare room and the right to free; the bound; the fields]
        show ! (λ i. sem 𝓛 (fsep (feq ℕ i.vec.len v.len) (fall (List ℕ) (λ ys. fwand (Given ys) ((bare (Whole ∷ [])).own_val (with_items i.vec ys, tt) (single u ∷ [])))))) (record { vec = v }) $
        feq_i ! ℕ v.len v.len refl $ frame ! $ each ! (λ ys. wand 𝓤 ⟦ Given ys ⟧ ⟦ Back ys ⟧) (λ ys. assume ! (‵ (Given ys)) $ fsplit ! $ feq_l ! (λ long.
        rewrite ! 0 (λ k. ‵ (bytes full_share ys b k)) (sym here) refl $ use1 𝓛 (‵ (lies_at (Array u8 v.len) full_share (block_ptr b o) ys)) (as_array v.len ys b o long) $ fjoin ! $
        rewrite ! 0 (λ xs. ‵ (Blk (block_ptr b o) xs)) (sym (with_items_is v ys long)) refl $
        let zs = (with_items v ys).items in
        rewrite ! 0 (λ y. ‵ (owns_if y (Blk (block_ptr b o) zs))) (sym live) refl $
        rewrite ! 0 (λ p. ‵ (in_block p (owns_if (has_block v.cap) (Blk p zs)))) (sym at) refl $
        move ! (1 ∷ 0 ∷ []) $ fjoin ! $ move ! (1 ∷ 0 ∷ []) $ fjoin ! $ makes_single ! Whole (with_items v ys) u $ done !)))

module _ {M : Type 1} {𝓤 : Ura M} (𝓛 : Logic 𝓤) (at_mem : Memory → SProp 𝓤) (run : Routine → Fun 𝓤) where
  open 𝓛 use {H}

  abbrev pub Lodges : Contract 𝓤
  Lodges = triple_of 𝓛 (LG.signature u8) (LG.spec u8 𝓛 at_mem run)

  abbrev pub Dislodges : Contract 𝓤
  Dislodges = triple_of 𝓛 (DL.signature u8) (DL.spec u8 𝓛 at_mem run)

  module _ (b o n : ℕ) (xs : List ℕ) where
    abbrev pub at_lodge : Lodges.Ghost
    at_lodge = ((([], tt), (full_share, tt), tt, (block_ptr b o, (n, (n, tt))), (vptr b o ∷ [], (vint w64 n ∷ [], (vint w64 n ∷ [], tt)))), xs)

    abbrev pub IsLodged : Vec ℕ Lodged → Type 0
    IsLodged r = (r.items ≡ xs) × (r.len ≡ n) × (r.cap ≡ n) × (r.ptr ≡ block_ptr b o)

    pub lodge_goes : length xs ≡ n → 0 < n → n < 2 ^ 63 → ent 𝓤 (sem 𝓛 (bytes full_share xs b o)) (Lodges.pre at_lodge)
    lodge_goes long filled small =
        let p = block_ptr b o in
        let Asked : Type 0 = (n ≡ length xs) × (n ≤ n) × (n < 2 ^ 63) in
        let none_spare : 0 ≡ n - n = omega arith in
        qed 𝓛 (‵ (bytes full_share xs b o) ∷ []) ∵ use1 𝓛 (‵ (lies_at (Array u8 n) full_share p xs)) (as_array 𝓛 n xs b o long) $
        nothing ! $ use0 𝓛 (‵ (froom (ty_array (ty_int w8) 0) b (o + n * 1))) (𝓛.laws.room_nil (ty_int w8) b (o + n * 1)) $
        rewrite ! 0 (λ k. ‵ (froom (ty_array (ty_int w8) k) b (o + n * 1))) none_spare refl $ move ! (2 ∷ 0 ∷ 1 ∷ []) $ fjoin3 ! $
        rewrite ! 0 (λ y. ‵ (owns_if y (block_with_items (λ _ _. ftrue) u8 p n n xs))) (sym (blocked n filled)) refl $ flt_i ! (n * 1) (2 ^ 63) (omega arith) $ fjoin ! $
        use0 𝓛 (raw (fact 𝓤 Asked)) (fact_i 𝓤 Asked (emp 𝓤) (sym long, omega arith, small)) $ join ! $
        use0 𝓛 (raw (fact 𝓤 ([] ⊑ []))) (fact_i 𝓤 ([] ⊑ []) (emp 𝓤) (⊑_refl [])) $ join ! $
        nothing ! $ flt_i ! n (2 ^ 64) (omega arith) $ feq_i ! (List Val) (vint w64 n ∷ []) (vint w64 n ∷ []) refl $ fjoin ! $ fjoin ! $
        flt_i ! n (2 ^ 64) (omega arith) $ feq_i ! (List Val) (vint w64 n ∷ []) (vint w64 n ∷ []) refl $ fjoin ! $ fjoin ! $
        feq_i ! (List Val) (vptr b o ∷ []) (vptr b o ∷ []) refl $ fjoin ! $ nothing ! $ use0 𝓛 (‵ (flft [] full_share)) (𝓛.lfts.lft-nil full_share) $ join ! $ join ! $ done !

    pub lodge_gives : (v : Val) → ent 𝓤 (Lodges.post at_lodge v) (H.⇛ (ex 𝓤 (λ (r : Vec ℕ Lodged). guard 𝓤 (IsLodged r) (sem 𝓛 (Guest.own_val r (v ∷ []))))))
    lodge_gives v =
        qed 𝓛 (raw (Lodges.post at_lodge v) ∷ []) ∵ updating ! $
        use1 𝓛 (later (some (λ (r : Vec ℕ Lodged). ((‵ (flft [] full_share) ⊛ ‵ ftrue) ⊛ ‵ (Guest.own_val r (v ∷ [])))
        ⊛ some (λ (ws : Unit {0} × (Unit {0} × (Unit {0} × Unit {0}))). ‵ (fsep ftrue (fsep ftrue (fsep ftrue ftrue))) ⊛ raw (fact 𝓤 (IsLodged r)))))) (id⊢ 𝓤 _) $ await ! tt $ pick ! (λ r.
        split ! $ move ! (1 ∷ []) $ pick ! (λ ws. split ! $ drop ! $ heard ! (IsLodged r) (λ is. split ! $ drop ! $ now ! $
        show ! (λ (z : Vec ℕ Lodged). guard 𝓤 (IsLodged z) (sem 𝓛 (Guest.own_val z (v ∷ [])))) r $ check ! is $ done !)))

  module _ (d : Vec ℕ Lodged) (u : Val) where
    abbrev pub at_dislodge : Dislodges.Ghost
    at_dislodge = ((([], tt), (full_share, tt), tt, (d, tt), (u ∷ [], tt)), tt)

    pub dislodge_goes : ent 𝓤 (sem 𝓛 (Guest.own_val d (u ∷ []))) (Dislodges.pre at_dislodge)
    dislodge_goes =
        qed 𝓛 (‵ (Guest.own_val d (u ∷ [])) ∷ []) ∵ nothing ! $ use0 𝓛 (raw (fact 𝓤 ([] ⊑ []))) (fact_i 𝓤 ([] ⊑ []) (emp 𝓤) (⊑_refl [])) $ join ! $
        nothing ! $ move ! (2 ∷ 0 ∷ []) $ fjoin ! $ nothing ! $ use0 𝓛 (‵ (flft [] full_share)) (𝓛.lfts.lft-nil full_share) $ join ! $ join ! $ done !

    pub dislodge_gives : (b o : ℕ) → d.ptr ≡ block_ptr b o → 0 < d.len → (v : Val) → ent 𝓤 (Dislodges.post at_dislodge v) (H.⇛ (guard 𝓤 ((v ≡ vint w64 d.len) × (d.len < 2 ^ 64)) (sem 𝓛 (bytes full_share d.items b o))))
    dislodge_gives b o at filled v =
        let Blk = λ (p : Ptr). block_with_items (λ _ _. ftrue) u8 p d.len d.cap d.items in
        qed 𝓛 (raw (Dislodges.post at_dislodge v) ∷ []) ∵ updating ! $
        use1 𝓛 (later (some (λ (r : ℕ). ((‵ (flft [] full_share) ⊛ ‵ ftrue) ⊛ ‵ (usize.own_val r (v ∷ [])))
        ⊛ some (λ (ws : Unit {0} × Unit {0}). ‵ (fsep (left ((V.the_row (param 0 u8) L.the_row LA.ghosts).exit no) d ws.0) ftrue) ⊛ raw (fact 𝓤 (r ≡ d.len)) ⊛ ‵ (lodged u8 d.ptr d.len d.cap d.items))))) (id⊢ 𝓤 _) $ await ! tt $ pick ! (λ r.
        split ! $ move ! (1 ∷ []) $ pick ! (λ ws. split3 ! $ drop ! $ heard ! (r ≡ d.len) (λ is. move ! (1 ∷ []) $ split ! $ drop ! $ fsplit ! $ feq_l ! (λ e. flt_l ! (λ f. now ! $
        check ! (ap only e ∙ ap (vint w64) is, omega arith) $ fsplit ! $ drop ! $
        rewrite ! 0 (λ p. ‵ (in_block p (owns_if (has_block d.cap) (Blk p)))) at refl $
        rewrite ! 0 (λ y. ‵ (owns_if y (Blk (block_ptr b o)))) (blocked d.cap (omega (arith, d.ok.1))) refl $ fsplit ! $ keep ! (0 ∷ []) $
        use1 𝓛 (‵ (bytes full_share d.items b o)) (as_bytes 𝓛 d.len d.items b o) $ done !)))))
