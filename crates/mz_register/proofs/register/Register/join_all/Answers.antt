use Rattle.std.proofs.Common.{◌≡◌, ℕ, ◌+◌, ◌<◌, suc, List, [], ◌∷◌, ◌++◌, length, map, Vec, Some, take, drop, arith, sym, ap, ◌∙◌, subst, append-nil, append_assoc, length-append}
use Rattle.std.proofs.lemmas.List.{length-map}
use Rattle.std.specs.Prelude.{slice_get}
use Rattle.std.specs.declared.alloc.Global.{Global}
use Rattle.std.specs.Vec.Iter.{into_iter_items}
use Rattle.atomic_table.specs.declared.shared.Seat.{Seat}
use Rattle.mz_events.specs.declared.entry.Entry.{Entry}
use Rattle.mz_desk.specs.declared.view.View.{View}
use Rattle.mz_desk.specs.Keys.{opened_as}
use Rattle.mz_desk.specs.Seats.{joined_view, CanTakeIn}
use Rattle.mz_register.specs.declared.pass.Pass.{Pass}
use Rattle.mz_register.specs.HandIn.{passes_of, IsIdleOf, IsFirstAt, joined_through, views_of}
use Rattle.mz_register.specs.Accounts.{pass_account}
use Rattle.mz_register.proofs.JoinLemmas.{joined_snoc, like, map_append, its_table, bare_handed, can_take}
use Rattle.mz_register.proofs.MergeLemmas.{index_at, at_length}
use Rattle.mz_register.proofs.PassLists.{cut_at, at_seam, back_at}
use Rattle.mz_register.proofs.Rests.{none_of}
use Rattle.mz_register.proofs.register.Register.join_all.Goals as goal

pub first_of-place-requires : goal.first_of-place-requires
first_of-place-requires g c = ap (λ ps. passes_of 0 ps) c.as_slice.ensures.value ∙ c.requires.all.one 0 (let n = c.args.self.now.limits.callers.0 in omega arith)

-- where the pass of caller 0 is found, it is in the list
found : {V : Type 0} (items shown : List (Pass V)) (i : ℕ) → shown ≡ items → (f : IsFirstAt shown i) → slice_get items i ≡ Some f.pass
found items shown i e f = ap (λ ps. slice_get ps i) (sym e) ∙ f.at

pub remove-first-requires : goal.remove-first-requires
remove-first-requires g c = let l = at_length c.args.passes.items c.first_of-place.result c.first_of-place.ensures.pass (found c.args.passes.items c.as_slice.result.now c.first_of-place.result c.as_slice.ensures.value c.first_of-place.ensures) in omega (arith, c.args.passes.ok.0)

pub push_reserved-requires : goal.push_reserved-requires
push_reserved-requires g c =
    let l = at_length c.args.passes.items c.first_of-place.result c.first_of-place.ensures.pass (found c.args.passes.items c.as_slice.result.now c.first_of-place.result c.as_slice.ensures.value c.first_of-place.ensures) in
    let n = ap length c.requires.room.0 in
    let m = c.requires.room.1 in
    omega (arith, c.args.records.ok.0)

pub loop-pass-init : goal.loop-pass-init
loop-pass-init g c =
    let r = c.args.self.now in
    let first = c.remove-first.result in
    let q = c.first_of-place.ensures in
    let e = c.into_record-noted.ensures in
    let is : first ≡ q.pass = c.remove-first.ensures.value ∙ index_at c.args.passes.items c.first_of-place.result q.pass first (found c.args.passes.items c.as_slice.result.now c.first_of-place.result c.as_slice.ensures.value c.first_of-place.ensures) in
    let here : slice_get c.args.passes.items c.first_of-place.result ≡ Some first = found c.args.passes.items c.as_slice.result.now c.first_of-place.result c.as_slice.ensures.value c.first_of-place.ensures ∙ ap (λ (x : Pass g.row.V.Denot). Some x) (sym is) in
    record {
      first = first;
      front = take c.first_of-place.result c.args.passes.items;
      back = drop (suc c.first_of-place.result) c.args.passes.items;
      done = [];
      all = cut_at c.args.passes.items c.first_of-place.result first here;
      caller = ap (λ (x : Pass g.row.V.Denot). x.seat.me.0.caller) is ∙ q.caller;
      others = sym c.remove-first.ensures.items ∙ sym c.into_iter-rest.ensures.rest;
      left = let n = ap length c.into_iter-rest.ensures.rest in let a = c.into_iter-rest.ensures.len in omega (arith, c.remove-first.new.self.ok.0);
      table = ap (λ t. t.2.table_id) e ∙ its_table r.table.shared.table_id r.opening.profile first (c.requires.all.each c.first_of-place.result first here);
      view = ap (λ t. t.2.me.0) e;
      records = c.push_reserved.ensures.items ∙ (ap (λ (vs : List (Vec Entry Global)). vs ++ c.into_record-noted.result.0 ∷ []) c.requires.room.0 ∙ ap (λ t. t.0 ∷ []) e);
      held = ap (λ t. t.1) e;
      capacity = c.push_reserved.ensures.capacity;
    }

pub push_reserved-requires-in-Some : goal.push_reserved-requires-in-Some
push_reserved-requires-in-Some g c =
    let inv = c.loop-pass.invariant in
    let pass = c.in-Some.pass in
    let rest = into_iter_items c.next.new.self in
    let others : inv.front ++ inv.back ≡ inv.done ++ pass ∷ rest = inv.others ∙ ap (λ (ps : List (Pass g.row.V.Denot)). inv.done ++ ps) c.in-Some.ensures.items in
    let n = ap length inv.all in
    let o = ap length others in
    let a = length-append inv.front (inv.first ∷ inv.back) in
    let b = length-append inv.front inv.back in
    let l = length-append inv.done (pass ∷ rest) in
    let m = ap length inv.records in
    let k = length-map inv.done (λ (x : Pass g.row.V.Denot). x.noted) in
    let cap = inv.capacity in
    let room = c.requires.room.1 in
    omega (arith, c.loop-pass.records.ok.0)

pub join_seat-requires-in-Some : goal.join_seat-requires-in-Some
join_seat-requires-in-Some g c =
    let r = c.args.self.now in
    let inv = c.loop-pass.invariant in
    let pass = c.in-Some.pass in
    let rest = into_iter_items c.next.new.self in
    let others : inv.front ++ inv.back ≡ inv.done ++ pass ∷ rest = inv.others ∙ ap (λ (ps : List (Pass g.row.V.Denot)). inv.done ++ ps) c.in-Some.ensures.items in
    let z = r.table.shared.table_id in
    let p = r.opening.profile in
    let back = (λ (j : ℕ) (x : Pass g.row.V.Denot) (h : slice_get (inv.first ∷ (inv.front ++ inv.back)) j ≡ Some x). let t = back_at inv.front inv.first inv.back j x h in c.requires.all.each t.0 x (ap (λ ps. slice_get ps t.0) inv.all ∙ t.1)) in
    let idle : IsIdleOf z p (pass_account pass) = back (suc (length inv.done)) pass (ap (λ (ps : List (Pass g.row.V.Denot)). slice_get ps (length inv.done)) others ∙ at_seam inv.done rest pass) in
    let seat : c.into_record-noted-in-Some.result.2 ≡ pass.seat = ap (λ t. t.2) c.into_record-noted-in-Some.ensures in
    let v = c.loop-pass.seat.me.0 in
    let l = like inv.first.seat.me.0 (views_of inv.done) in
    let live : v.live ≡ _ = ap (λ (u : View). u.live) inv.view ∙ (l.live ∙ inv.first.rested.live) in
    let caller : v.caller ≡ 0 = ap (λ (u : View). u.caller) inv.view ∙ (l.caller ∙ inv.caller) in
    let words = r.words in (
      inv.table,
      ap (λ (s : Seat (_) View). s.table_id) seat ∙ its_table z p pass idle,
      ap (λ (s : Seat (_) View). s.me.1) seat ∙ bare_handed z p pass idle,
      omega arith,
      c.join_seat.ensures (opened_as g.V.Keep.keeping r.table.shared.key) c.loop-pass.seat.id c.into_record-noted-in-Some.result.2.id v c.into_record-noted-in-Some.result.2.me.0
          (subst (λ (s : Seat (_) View). CanTakeIn v s.me.0) (sym seat) (can_take z p pass idle v live caller)),
    )

pub loop-pass-preserved : goal.loop-pass-preserved
loop-pass-preserved g c =
    let inv = c.loop-pass.invariant in
    let pass = c.in-Some.pass in
    let rest = into_iter_items c.next.new.self in
    let e = c.into_record-noted-in-Some.ensures in
    let j = c.join_seat-in-Some.ensures in
    let more = inv.done ++ pass ∷ [] in
    record {
      first = inv.first;
      front = inv.front;
      back = inv.back;
      done = more;
      all = inv.all;
      caller = inv.caller;
      others = inv.others ∙ (ap (λ (ps : List (Pass g.row.V.Denot)). inv.done ++ ps) c.in-Some.ensures.items ∙ sym (append_assoc inv.done (pass ∷ []) rest));
      left = let a = inv.left in let b = ap length c.in-Some.ensures.items in let d = c.in-Some.ensures.len in omega arith;
      table = j.0 ∙ inv.table;
      view = ap (λ m. m.0) j.2 ∙ (ap (λ (u : View). joined_view u c.into_record-noted-in-Some.result.2.me.0) inv.view ∙ (ap (λ t. joined_view (joined_through inv.first.seat.me.0 (views_of inv.done)) t.2.me.0) e
          ∙ (sym (joined_snoc inv.first.seat.me.0 (views_of inv.done) pass.seat.me.0) ∙ ap (joined_through inv.first.seat.me.0) (sym (map_append (λ (x : Pass g.row.V.Denot). x.seat.me.0) inv.done (pass ∷ []))))));
      records = c.push_reserved-in-Some.ensures.items ∙ (ap (λ (vs : List (Vec Entry Global)). vs ++ c.into_record-noted-in-Some.result.0 ∷ []) inv.records ∙ (ap (λ t. map (λ (x : Pass g.row.V.Denot). x.noted) (inv.first ∷ inv.done) ++ t.0 ∷ []) e ∙ sym (map_append (λ (x : Pass g.row.V.Denot). x.noted) (inv.first ∷ inv.done) (pass ∷ []))));
      held = inv.held;
      capacity = c.push_reserved-in-Some.ensures.capacity ∙ inv.capacity;
    }

pub returns : goal.returns
returns g c =
    let inv = c.loop-pass.invariant in
    let none : into_iter_items c.loop-pass.rest ≡ [] = none_of (into_iter_items c.loop-pass.rest) (let a = inv.left in let b = c.in_default.ensures.cases.0 in omega arith) in
    let others : inv.front ++ inv.back ≡ inv.done = inv.others ∙ (ap (λ (ps : List (Pass g.row.V.Denot)). inv.done ++ ps) none ∙ append-nil inv.done) in
    record {
      first = inv.first;
      front = inv.front;
      back = inv.back;
      all = inv.all;
      caller = inv.caller;
      table = inv.table;
      view = inv.view ∙ ap (λ (ps : List (Pass g.row.V.Denot)). joined_through inv.first.seat.me.0 (views_of ps)) (sym others);
      records = inv.records ∙ ap (λ (ps : List (Pass g.row.V.Denot)). map (λ (x : Pass g.row.V.Denot). x.noted) (inv.first ∷ ps)) (sym others);
      held_is = inv.held;
    }
