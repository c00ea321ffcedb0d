use Rattle.std.proofs.Common.{◌/◌, ◌∙◌, sym, ap, arith}
use Rattle.mz_nano.specs.declared.view.Geometry.{Geometry}
use Rattle.mz_nano.proofs.OpenLemmas.{opens}
use Rattle.mz_nano.proofs.AllLemmas.{new_all}
use Rattle.mz_nano.proofs.nano.Nano.open.Goals as goal

pub new-requires : goal.new-requires
new-requires c =
    let key : Geometry = record { blocks = c.len-blocks.result / 16384; most_gen = c.args.most_gen; seats = c.args.seats; edge = c.cut_off-pages.new.self } in
    opens key c.as_slice.result.now c.in_ok-places.places.items (c.as_slice.ensures.value ∙ c.in_ok-words.ensures) c.in_ok-places.ensures (let l = c.requires.last.1 in omega arith) c.requires.count

pub returns-in_ok-list-in-Ok-clause-all : goal.returns-in_ok-list-in-Ok-clause-all
returns-in_ok-list-in-Ok-clause-all c =
    let n = c.in_ok-list-in-Ok.ensures in
    (n.0 ∙ sym (ap (λ (g : Geometry). g.seats) c.in-Ok.ensures.ok.5), new_all c.in-Ok.table.shared.table_id c.in-Ok.table.shared.key 0 c.in_ok-list-in-Ok.list.items n.1)
