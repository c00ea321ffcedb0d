-- `found` takes the bytes out, and makes a ticket for each. Assumes `Logic`.
use Rattle.std.proofs.Common.{◌≡◌, ℕ, ◌<◌, List, [], ◌∷◌, ◌++◌, length, refl, sym, ap, ◌∙◌, add-zero}
use seplogic.Ra.Ura.{Ura}
use mir.Syntax.{Fn}
use mir.Val.{Val}
use base.Logic.{SProp, ent, ex, all_e, apply∗}
use base.Fml.{ftrue}
use prog.Memory.{Memory}
use prog.Routine.{Routine}
use prog.Wp.{Calls, Loops, WpFn, Tables}
use contract.Monad.{Fun, fact}
use contract.Running.{tables, tables_of}
use sound.WpLaws.{WpFn-mono}
use types.Logic.{Logic}
use types.Kit.{‵, raw, ◌⊛◌, some, given, later, prop, ◌$◌, ◌∵◌, !, qed, move, drop, use0, use1, split, fsplit, fjoin, fpack, regoal, suffices, await, pick, learn, done}
use types.Part.{agg}
use types.Owned.{basic}
use types.Run.{enter, returns, of_opd, and_then, no_more}
use types.ByLocal.{alloc_all, pass_all, free_all, look_at, get, sets}
use denote.Exit.{yes}
use denote.Laws.{Typed}
use denote.RattleType.{owns}
use denote.Param.{layout}
use denote.RawPtr.{block_ptr}
use denote.Signature.{plain, types_at}
use denote.Steps.{nothing, heard}
use denote.Struct.Struct.{as_fields}
use denote.Triple.Clauses.{Clauses, Ended, closing}
use denote.Triple.Entry.{alive}
use denote.Triple.Spec.{Meets, triple_of}
use denote.Triple.Table.{entered}
use denote.Triple.Walked.{says, Stays, stay_dropped, walk_of, ends_at, walk_Meets}
use Rattle.std.proofs.alloc.Calls.{Goes-blank}
use Rattle.mz_ground.specs.Ownership.{tickets, lies_in}
use Rattle.mz_ground.specs.contracts.raw.Plot as Plot
use Rattle.mz_ground.specs.contracts.raw.Sole as Sole
use Rattle.mz_ground.proofs.Tickets.{tickets_new}
use Rattle.mz_ground.proofs.Lodging.{Whole, whole-laws, site_at, carve}
use Rattle.mz_ground.proofs.Walks.{none, single, pair, one_value, makes_none, makes_pair}
use Rattle.mz_ground.specs.contracts.raw.Sole.found as F
use Rattle.mz_ground.specs.contracts.raw.Sole.found.Key.{name as #self}
use Rattle.mz_ground.proofs.raw.Sole.found.Statement as stated
use Rattle.mz_ground.proofs.raw.Sole.found.Code as code

abbrev function : Fn
function = code.function

abbrev ended : Ended
ended = F.ended

abbrev stayed : Stays ended.signature.params ended.kept
stayed = (stay_dropped (plain (λ _. Whole)) yes, tt)

module _ {M : Type 1} {𝓤 : Ura M} (𝓛 : Logic 𝓤) (at_mem : Memory → SProp 𝓤) (run : Routine → Fun 𝓤) where
  open 𝓛 use {H}

  abbrev held : Clauses 𝓤 ended
  held = F.clauses 𝓛 at_mem run

  module _ (C : Calls 𝓤 H) (Λ : Loops 𝓤 H) (z : (walk_of 𝓛 ended stayed held).Ghost) where
    abbrev Post : Val → SProp 𝓤
    Post = (walk_of 𝓛 ended stayed held).post z

    abbrev toks : SProp 𝓤
    toks = alive 𝓛 ended.signature z.0.0 z.0.1

    walks : ent 𝓤 ((walk_of 𝓛 ended stayed held).pre z) (WpFn 𝓤 H C Λ function ((walk_of 𝓛 ended stayed held).args z) Post)
    walks =
        let a = z.0.3 in
        let vss = z.0.4 in
        let v = a.0 in
        let Asked = 0 < v.len in
        qed 𝓛 ((raw toks ⊛ ‵ (owns (types_at ended.signature.params z.0.0) a vss)) ∷ raw (fact 𝓤 Asked) ∷ []) ∵
        move ! (1 ∷ []) $ heard ! Asked (λ asked. split ! $ move ! (1 ∷ []) $
        fsplit ! $ one_value ! Whole whole-laws v vss.0 (λ u is good. move ! (1 ∷ []) $ drop ! $
        let inner = as_fields (layout Whole ∷ []) (u ∷ []) (good, tt) in
        regoal ! (λ (us : List Val). prop (WpFn 𝓤 H C Λ function (us ++ []) Post)) is refl $
        enter ! C Λ function (u ∷ []) Post $ alloc_all ! (λ l. pass_all ! refl (good, tt) $
        sets ! (agg ! (no_more !)) refl (tt, tt) $
        sets ! (of_opd ! (get ! refl)) refl good $
        sets ! (agg ! (and_then ! (get ! refl) (no_more !))) refl inner $
        sets ! (agg ! (and_then ! (get ! refl) (and_then ! (get ! refl) (no_more !)))) refl (as_fields (layout Plot.the_row ∷ layout Sole.the_row ∷ []) (none ∷ single u ∷ []) ((tt, tt), (inner, tt))) $
        use0 𝓛 (later (some (λ (γ : ℕ). ‵ (tickets γ 0 (length v.items))))) (base.Logic.via 𝓤 _ (tickets_new 𝓛 (length v.items)) (basic 𝓛 _)) $ await ! tt $ pick ! (λ γ. move ! (1 ∷ []) $
        use1 𝓛 (some (λ (p : ℕ × ℕ). given (v.ptr ≡ block_ptr p.0 p.1) (‵ (lies_in (site_at 𝓛 v γ p) 0 v.items) ⊛ ‵ (Sole.the_own (site_at 𝓛 v γ p) (single u ∷ []))))) (carve 𝓛 v γ u asked) $ pick ! (λ p. learn ! (λ at. split ! $
        -- [the bytes; what waits for them; the tickets; the tokens]
        let s = site_at 𝓛 v γ p in
        let plot : (Plot.the_row).Denot = record { space = s; first = 0; bytes = v.items } in
        move ! (0 ∷ 2 ∷ []) $ fjoin ! $ makes_none ! $ fjoin ! $ move ! (1 ∷ []) $ nothing ! $ fpack ! (Typed (Sole.the_row).mir (single u ∷ [])) (λ _. ftrue) (inner, tt) $ fjoin ! $ move ! (1 ∷ 0 ∷ []) $
        makes_pair ! Plot.the_row Sole.the_row plot s none (single u) $
        returns ! (look_at ! 0 refl) $ free_all ! refl $
        suffices ! _ (ends_at 𝓛 ended stayed held z (pair none (single u)) (plot, s) (tt, tt) (tt, tt)) $ says ! (record { space = refl; first = refl; bytes = refl }, refl, at ∙ ap (λ k. block_ptr p.0 k) (sym (add-zero p.1))) $
        nothing ! $ nothing ! $ fjoin ! $ move ! (2 ∷ 0 ∷ 1 ∷ []) $ done !))))))

  meets : (𝓣 : Tables 𝓤 H) → Meets 𝓛 ended.signature (WpFn 𝓤 H 𝓣.C 𝓣.Λ function) (closing 𝓛 ended held)
  meets 𝓣 =
      walk_Meets 𝓛 ended stayed (Goes-blank 𝓛 0 (plain (λ _. Whole)) yes (λ κs x f. tt), tt) held
      (WpFn 𝓤 H 𝓣.C 𝓣.Λ function) (WpFn-mono 𝓤 H 𝓛.laws 𝓣 function) (walks 𝓣.C 𝓣.Λ)

pub found_spec : {M : Type 1} → stated.statement M
unfolding tables_of
found_spec 𝓤 𝓛 𝓜 𝓡 wired =
    let 𝓣 : Tables 𝓤 𝓛.H = tables_of 𝓤 𝓛.H 𝓜 (tables 𝓤 𝓛.H 𝓜 𝓡 𝓡.env) in
    entered 𝓤 𝓛.H (triple_of 𝓛 ended.signature (closing 𝓛 ended (held 𝓛 𝓜.mem 𝓡.returns))) 𝓣.C 𝓣.Λ #self function
    (code.unfolded 𝓤 𝓛.H 𝓜 𝓡 wired) (meets 𝓛 𝓜.mem 𝓡.returns 𝓣)
