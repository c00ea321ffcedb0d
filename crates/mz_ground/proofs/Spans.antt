-- Two spans in a row are one.
use Rattle.std.proofs.Common.{◌≡◌, ℕ, ◌+◌, ◌^◌, ◌<◌, ◌≤◌, ◌++◌, Option, Some, None, Vec, length, sym, ap, ◌∙◌, subst, arith, length-append}
use Rattle.std.specs.Option.{option_or}
use Rattle.std_alloc.specs.declared.vec.lodged.Lodged.{Lodged}
use Rattle.mz_base.specs.Site.{Site}
use Rattle.mz_ground.specs.declared.raw.Deed.{Deed}
use Rattle.mz_ground.specs.declared.raw.Root.{Root}
use Rattle.mz_ground.specs.Parts.{LaidAs}
use Rattle.mz_ground.specs.Held.{HasItsRoot, IsSpan}

-- one of them has the root, where the two together have it
root_of_both : (s : Site) (a n b m t : ℕ) (r r' : Option Root) → b ≡ a + n → t ≡ n + m → HasItsRoot s a n r → HasItsRoot s b m r' → HasItsRoot s a t (option_or r r')
root_of_both s a n b m t None None e f g h = λ z. let none : n ≡ 0 = g z in let rest : m ≡ 0 = h (omega arith) in omega arith
root_of_both s a n b m t None (Some y) e f g h = let at : b ≡ 0 = h.0 in let some : 0 < m = h.1 in (omega arith, omega arith, h.2)
root_of_both s a n b m t (Some x) r' e f g h = let some : 0 < n = g.1 in (g.0, omega arith, g.2)

pub span_of_both : (v w : Vec ℕ Lodged) (a b : ℕ) (d e : Deed) (r r' r'' : Option Root) (l : Vec ℕ Lodged × Deed) → IsSpan v a d r → IsSpan w b e r' → e.space ≡ d.space → b ≡ a + length v.items
    → LaidAs l d.space d.first (v.items ++ w.items) → r'' ≡ option_or r r' → IsSpan l.0 a l.1 r''
span_of_both v w a b d e r r' r'' l one two space next laid root =
    let n = length v.items in
    let m = length w.items in
    let t = length l.0.items in
    let long : t ≡ n + m = ap length laid.items ∙ length-append v.items w.items in
    let R' = λ (s : Site). HasItsRoot s b m r' in
    let rooted : HasItsRoot d.space a t (option_or r r') = root_of_both d.space a n b m t r r' next long one.rooted (subst R' space two.rooted) in
    let S = λ (s : Site). HasItsRoot s a t r'' in
    let O = λ (o : Option Root). HasItsRoot d.space a t o in
    let size : e.space.size ≡ d.space.size = ap (λ (s : Site). s.size) space in
    let same : l.1.space.size ≡ d.space.size = ap (λ (s : Site). s.size) laid.space in
    let end : b + m ≤ e.space.size = two.inside.0 in
    let small : d.space.size < 2 ^ 63 = one.inside.1 in
    record {
      at = laid.first ∙ one.at;
      laid = laid.laid;
      inside = (omega arith, omega arith);
      rooted = subst S (sym laid.space) (subst O (sym root) rooted);
    }
