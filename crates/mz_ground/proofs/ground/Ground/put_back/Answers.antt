use Rattle.std.proofs.Common.{◌+◌, ◌*◌, length, sym, ap, ◌∙◌}
use Rattle.std.specs.Option.{option_or}
use Rattle.mz_ground.proofs.Grounds.{within_is, took_back, length_back, were_lent, ground_back}
use Rattle.mz_ground.proofs.ground.Ground.put_back.Goals as goal

pub invariant_of-self : goal.invariant_of-self
invariant_of-self g c =
    let i = c.self.inside in
    let p = c.into_parts-bytes.result in
    let within = within_is _ i.lent.items c.args.q c.args.n (ap (λ v. v.lent) c.self.view_is) c.requires.within in
    let t = took_back i.kept c.replace-kept.result c.put-self-inside.result c.lift.result.bytes c.args.q c.args.n c.replace-kept.ensures.value c.put-self-inside.ensures in
    let space = c.into_parts-bytes.ensures.space ∙ c.requires.space ∙ sym (ap (λ v. v.space) c.self.view_is) in
    let first = c.into_parts-bytes.ensures.first ∙ c.requires.first ∙ sym (ap (λ v. v.first + g.row.Q * c.args.q) c.self.view_is) in
    let long = ap length c.into_parts-bytes.ensures.bytes ∙ c.requires.len in
    let root = c.or.ensures ∙ ap (λ r. option_or p.3 r) c.take.ensures.value in
    ground_back g.row.Q i.base.ptr i.first i.lent.items c.mark.new.flags.items i.root i.kept c.put-self-inside.result p.0 p.1 p.2 p.3 c.or.result c.lift.result c.args.q c.args.n c.self.invariant c.into_parts-bytes.ensures.held within
    space first long c.lift.ensures.bytes t c.mark.ensures root

pub returns-clause-were_lent : goal.returns-clause-were_lent
returns-clause-were_lent g c =
    let i = c.self.inside in
    let t = took_back i.kept c.replace-kept.result c.put-self-inside.result c.lift.result.bytes c.args.q c.args.n c.replace-kept.ensures.value c.put-self-inside.ensures in
    were_lent g.row.Q i.base.ptr i.first _ i.lent.items i.root i.kept c.args.q c.args.n c.self.invariant (ap (λ v. v.lent) c.self.view_is) c.requires.within t.0

pub returns-clause-len : goal.returns-clause-len
returns-clause-len g c =
    let i = c.self.inside in
    let within = within_is _ i.lent.items c.args.q c.args.n (ap (λ v. v.lent) c.self.view_is) c.requires.within in
    let t = took_back i.kept c.replace-kept.result c.put-self-inside.result c.lift.result.bytes c.args.q c.args.n c.replace-kept.ensures.value c.put-self-inside.ensures in
    let long = ap length c.lift.ensures.bytes ∙ ap length c.into_parts-bytes.ensures.bytes ∙ c.requires.len in
    ap length t.1.bytes ∙ length_back g.row.Q i.base.ptr i.first i.lent.items i.root i.kept c.lift.result.bytes c.args.q c.args.n c.self.invariant within long ∙ ap (λ v. length v.bytes) c.self.view_is
