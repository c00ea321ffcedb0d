-- `vacate` takes the bytes from `dislodge`. Assumes `Logic`.
use Rattle.std.proofs.Common.{◌≡◌, ◌+◌, ◌^◌, ◌<◌, List, [], ◌∷◌, ◌++◌, length, refl, ◌∙◌}
use seplogic.Ra.Ura.{Ura}
use mir.Syntax.{Fn, Callee, a_type, w64}
use mir.Val.{Val, vint}
use base.Logic.{SProp, ent}
use prog.Memory.{Memory}
use prog.Routine.{Routine}
use prog.Wp.{Calls, Loops, WpFn, Tables}
use contract.Monad.{Fun, fact}
use contract.Running.{tables, tables_of}
use sound.WpLaws.{WpFn-mono, fm_of, FmC}
use types.Logic.{Logic}
use types.Kit.{‵, raw, ◌⊛◌, given, later, prop, ◌$◌, ◌∵◌, !, qed, move, drop, use1, split, fsplit, fjoin, regoal, rewrite, suffices, await, learn, done}
use types.Part.{agg}
use types.Run.{enter, returns, of_opd, and_then, no_more}
use types.ByLocal.{alloc_all, pass_all, free_all, look_at, get, sets, lands_as}
use denote.Exit.{yes}
use denote.RattleType.{owns}
use denote.Builtin.{u8}
use denote.Param.{layouts}
use denote.Signature.{plain, types_at}
use denote.Steps.{nothing, heard}
use denote.Triple.Call.{calls_at}
use denote.Triple.Clauses.{Clauses, Ended, closing}
use denote.Triple.Entry.{alive}
use denote.Triple.Spec.{Meets, triple_of}
use denote.Triple.Statement.{Triple}
use denote.Triple.Table.{entered}
use denote.Triple.Walked.{says, Stays, stay_dropped, walk_of, ends_at, walk_Meets}
use Rattle.std.proofs.alloc.Calls.{Goes-blank}
use Rattle.mz_ground.specs.Place.{IsAt}
use Rattle.mz_ground.specs.Ownership.{tickets, lies_in}
use Rattle.mz_ground.specs.contracts.raw.Plot as Plot
use Rattle.mz_ground.specs.contracts.raw.Deed as Deed
use Rattle.mz_ground.proofs.Lodging.{Guest, guest-laws, byte-laws, Dislodges, at_dislodge, dislodge_goes, dislodge_gives}
use Rattle.mz_ground.proofs.Walks.{none, one_value, makes_none, had_none}
use Rattle.std_alloc.specs.contracts.vec.lodged.Vec+T+Lodged.dislodge.Key.{name as callee_name}
use Rattle.std_alloc.proofs.vec.lodged.Vec+T+Lodged.dislodge.Met as callee
use Rattle.mz_ground.specs.contracts.raw.lodging.vacate as F
use Rattle.mz_ground.specs.contracts.raw.lodging.vacate.Key.{name as #self}
use Rattle.mz_ground.proofs.raw.lodging.vacate.Statement as stated
use Rattle.mz_ground.proofs.raw.lodging.vacate.Code as code

abbrev function : Fn
function = code.function

abbrev ended : Ended
ended = F.ended

abbrev key : Callee
key = callee_name (layouts (a_type ∷ []) (u8, tt))

abbrev stayed : Stays ended.signature.params ended.kept
stayed = (stay_dropped (plain (λ _. Guest)) yes, (stay_dropped (plain (λ _. Deed.the_row)) yes, tt))

module _ {M : Type 1} {𝓤 : Ura M} (𝓛 : Logic 𝓤) (at_mem : Memory → SProp 𝓤) (run : Routine → Fun 𝓤) where
  open 𝓛 use {H}

  abbrev held : Clauses 𝓤 ended
  held = F.clauses 𝓛 at_mem run

  module _ (C : Calls 𝓤 H) (Λ : Loops 𝓤 H) (framed : FmC 𝓤 H 𝓛.laws C) (called : Triple 𝓤 (C key) (Dislodges 𝓛 at_mem run)) (z : (walk_of 𝓛 ended stayed held).Ghost) where
    abbrev Post : Val → SProp 𝓤
    Post = (walk_of 𝓛 ended stayed held).post z

    abbrev toks : SProp 𝓤
    toks = alive 𝓛 ended.signature z.0.0 z.0.1

    walks : ent 𝓤 ((walk_of 𝓛 ended stayed held).pre z) (WpFn 𝓤 H C Λ function ((walk_of 𝓛 ended stayed held).args z) Post)
    walks =
        let a = z.0.3 in
        let vss = z.0.4 in
        let v = a.0 in
        let d = a.1.0 in
        let s = d.space in
        let o = s.origin + d.first in
        let Asked = (0 < v.len) × (d.count ≡ v.len) × IsAt v.ptr s d.first in
        qed 𝓛 ((raw toks ⊛ ‵ (owns (types_at ended.signature.params z.0.0) a vss)) ∷ raw (fact 𝓤 Asked) ∷ []) ∵
        move ! (1 ∷ []) $ heard ! Asked (λ asked. split ! $ move ! (1 ∷ []) $
        fsplit ! $ one_value ! Guest guest-laws v vss.0 (λ u is₀ good. move ! (1 ∷ []) $ fsplit ! $ fsplit ! $ had_none ! vss.1.0 (λ is₁. move ! (1 ∷ []) $ drop ! $
        -- [the tickets; the `Vec`; the tokens]
        let y = at_dislodge 𝓛 at_mem run v u in
        regoal ! (λ (us : List Val). prop (WpFn 𝓤 H C Λ function (us ++ (vss.1.0 ++ [])) Post)) is₀ refl $
        regoal ! (λ (us : List Val). prop (WpFn 𝓤 H C Λ function ((u ∷ []) ++ (us ++ [])) Post)) is₁ refl $
        enter ! C Λ function (u ∷ none ∷ []) Post $ alloc_all ! (λ l. pass_all ! refl (good, ((tt, tt), tt)) $
        sets ! (of_opd ! (get ! refl)) refl good $ move ! (1 ∷ []) $ use1 𝓛 (raw ((Dislodges 𝓛 at_mem run).pre y)) (dislodge_goes 𝓛 at_mem run v u) $
        calls_at ! framed (Dislodges 𝓛 at_mem run) called y (and_then ! (get ! refl) (no_more !)) (λ w.
        use1 𝓛 (later (given ((w ≡ vint w64 v.len) × (v.len < 2 ^ 64)) (‵ (lies_in s d.first v.items)))) (dislodge_gives 𝓛 at_mem run v u s.block o asked.2 asked.0 w) $ await ! tt $ learn ! (λ got.
        lands_as ! got.0 refl (tt, record { fits = got.1 }) $
        sets ! (agg ! (no_more !)) refl (tt, tt) $
        let long : d.count ≡ length v.items = asked.1 ∙ v.ok.0 in
        let plot : (Plot.the_row).Denot = record { space = s; first = d.first; bytes = v.items } in
        move ! (1 ∷ []) $ rewrite ! 0 (λ k. ‵ (tickets s.name d.first k)) long refl $ move ! (1 ∷ 0 ∷ []) $ fjoin ! $ makes_none ! $ fjoin ! $
        returns ! (look_at ! 0 refl) $ free_all ! refl $
        suffices ! _ (ends_at 𝓛 ended stayed held z none plot (tt, (tt, tt)) (tt, (tt, tt))) $ says ! (record { space = refl; first = refl; bytes = refl }) $
        nothing ! $ nothing ! $ fjoin ! $ nothing ! $ fjoin ! $ move ! (2 ∷ 0 ∷ 1 ∷ []) $ done !))))))

  meets : (𝓣 : Tables 𝓤 H) → Triple 𝓤 (𝓣.C key) (Dislodges 𝓛 at_mem run) → Meets 𝓛 ended.signature (WpFn 𝓤 H 𝓣.C 𝓣.Λ function) (closing 𝓛 ended held)
  meets 𝓣 called =
      walk_Meets 𝓛 ended stayed (Goes-blank 𝓛 0 (plain (λ _. Guest)) yes (λ κs x f. tt), (Goes-blank 𝓛 0 (plain (λ _. Deed.the_row)) yes (λ κs x f. tt), tt)) held
      (WpFn 𝓤 H 𝓣.C 𝓣.Λ function) (WpFn-mono 𝓤 H 𝓛.laws 𝓣 function) (walks 𝓣.C 𝓣.Λ (fm_of 𝓤 H 𝓛.laws 𝓣) called)

pub vacate_spec : {M : Type 1} → stated.statement M
unfolding tables_of
vacate_spec 𝓤 𝓛 𝓜 𝓡 wired =
    let 𝓣 : Tables 𝓤 𝓛.H = tables_of 𝓤 𝓛.H 𝓜 (tables 𝓤 𝓛.H 𝓜 𝓡 𝓡.env) in
    entered 𝓤 𝓛.H (triple_of 𝓛 ended.signature (closing 𝓛 ended (held 𝓛 𝓜.mem 𝓡.returns))) 𝓣.C 𝓣.Λ #self function
    (code.unfolded 𝓤 𝓛.H 𝓜 𝓡 wired) (meets 𝓛 𝓜.mem 𝓡.returns 𝓣 (callee.met 𝓤 𝓛 𝓜 𝓡 (code.calls-std_alloc::vec::lodged::Vec+T+Lodged::dislodge 𝓡.env wired) u8 byte-laws))
