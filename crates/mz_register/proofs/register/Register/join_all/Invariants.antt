use Rattle.std.proofs.Common.{◌≡◌, List, ◌∷◌, ◌++◌, length, map}
use Rattle.std.specs.Vec.{vec_capacity}
use Rattle.std.specs.Vec.Iter.{into_iter_items, into_iter_len}
use Rattle.mz_register.specs.declared.pass.Pass.{Pass}
use Rattle.mz_register.specs.HandIn.{joined_through, views_of}
use Rattle.mz_register.proofs.register.Register.join_all.Given as goal

abbrev pub decreases-loop-pass : goal.decreases-loop-pass
decreases-loop-pass g l = into_iter_len l.rest

abbrev pub invariant-loop-pass : goal.invariant-loop-pass
invariant-loop-pass g l = record {
  first : Pass g.row.V.Denot;
  front : List (Pass g.row.V.Denot);
  back : List (Pass g.row.V.Denot);
  done : List (Pass g.row.V.Denot);
  all : l.fn.passes.items ≡ front ++ first ∷ back;
  caller : first.seat.me.0.caller ≡ 0;
  others : front ++ back ≡ done ++ into_iter_items l.rest;
  left : into_iter_len l.rest ≡ length (into_iter_items l.rest);
  table : l.seat.table_id ≡ l.self.table.shared.table_id;
  view : l.seat.me.0 ≡ joined_through first.seat.me.0 (views_of done);
  records : l.records.items ≡ map (λ (x : Pass g.row.V.Denot). x.noted) (first ∷ done);
  held : l.held ≡ first.held;
  capacity : vec_capacity l.records ≡ vec_capacity l.fn.records;
}
