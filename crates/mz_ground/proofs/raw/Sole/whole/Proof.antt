-- `whole` hands the bytes to what waits for them. Assumes `Logic`.
use Rattle.std.proofs.Common.{◌≡◌, ℕ, List, [], ◌∷◌, ◌++◌, length, refl, sym, ◌∙◌, subst}
use seplogic.Ra.Ura.{Ura}
use mir.Syntax.{Fn}
use mir.Val.{Val}
use base.Logic.{SProp, ent, all_e, apply∗}
use base.Fml.{fsep, feq, fwand}
use prog.Memory.{Memory}
use prog.Routine.{Routine}
use prog.Wp.{Calls, Loops, WpFn, Tables}
use contract.Monad.{Fun, fact}
use contract.Running.{tables, tables_of}
use sound.WpLaws.{WpFn-mono}
use types.Logic.{Logic, sem}
use types.Kit.{‵, raw, ◌⊛◌, prop, ◌$◌, ◌∵◌, !, qed, move, drop, use1, use2, split, fsplit, fjoin, fpick, feq_l, feq_i, regoal, rewrite, suffices, done}
use types.Part.{sub, whole}
use types.Run.{enter, returns, of_opd, fld, stop}
use types.ByLocal.{alloc_all, pass_all, free_all, look_at, get, get_in, sets}
use denote.Exit.{yes}
use denote.Laws.{Typed}
use denote.RattleType.{owns}
use denote.Signature.{plain, types_at}
use denote.Steps.{nothing, heard}
use denote.Triple.Clauses.{Clauses, Ended, closing}
use denote.Triple.Entry.{alive}
use denote.Triple.Spec.{Meets, triple_of}
use denote.Triple.Table.{entered}
use denote.Triple.Walked.{says, Stays, stay_dropped, walk_of, ends_at, walk_Meets}
use Rattle.std.proofs.alloc.Calls.{Goes-blank}
use Rattle.std.proofs.lemmas.List.{with_items_is}
use Rattle.std.specs.Vec.{with_items}
use Rattle.mz_ground.specs.Ownership.{lies_in}
use Rattle.mz_ground.specs.contracts.raw.Plot as Plot
use Rattle.mz_ground.specs.contracts.raw.Sole as Sole
use Rattle.mz_ground.proofs.Lodging.{Whole, whole-laws}
use Rattle.mz_ground.proofs.Walks.{bare, none, single, had_none, had_single}
use Rattle.mz_ground.specs.contracts.raw.Sole.whole as F
use Rattle.mz_ground.specs.contracts.raw.Sole.whole.Key.{name as #self}
use Rattle.mz_ground.proofs.raw.Sole.whole.Statement as stated
use Rattle.mz_ground.proofs.raw.Sole.whole.Code as code

abbrev function : Fn
function = code.function

abbrev ended : Ended
ended = F.ended

abbrev stayed : Stays ended.signature.params ended.kept
stayed = (stay_dropped (plain (λ _. Sole.the_row)) yes, (stay_dropped (plain (λ _. Plot.the_row)) yes, tt))

module _ {M : Type 1} {𝓤 : Ura M} (𝓛 : Logic 𝓤) (at_mem : Memory → SProp 𝓤) (run : Routine → Fun 𝓤) where
  open 𝓛 use {H}

  abbrev held : Clauses 𝓤 ended
  held = F.clauses 𝓛 at_mem run

  module _ (C : Calls 𝓤 H) (Λ : Loops 𝓤 H) (z : (walk_of 𝓛 ended stayed held).Ghost) where
    abbrev Post : Val → SProp 𝓤
    Post = (walk_of 𝓛 ended stayed held).post z

    abbrev toks : SProp 𝓤
    toks = alive 𝓛 ended.signature z.0.0 z.0.1

    walks : ent 𝓤 ((walk_of 𝓛 ended stayed held).pre z) (WpFn 𝓤 H C Λ function ((walk_of 𝓛 ended stayed held).args z) Post)
    walks =
        let a = z.0.3 in
        let vss = z.0.4 in
        let s = a.0 in
        let p = a.1.0 in
        let xs = p.bytes in
        let Asked = (p.space ≡ s) × (p.first ≡ 0) × (length xs ≡ s.size) in
        qed 𝓛 ((raw toks ⊛ ‵ (owns (types_at ended.signature.params z.0.0) a vss)) ∷ raw (fact 𝓤 Asked) ∷ []) ∵
        move ! (1 ∷ []) $ heard ! Asked (λ asked. split ! $ move ! (1 ∷ []) $
        fsplit ! $ fsplit ! $ fpick ! (λ typed. drop ! $ fpick ! (λ v. fsplit ! $ feq_l ! (λ len. move ! (1 ∷ []) $ fsplit ! $ fsplit ! $ had_none ! vss.1.0 (λ is₁. fsplit ! $ move ! (1 ∷ []) $ drop ! $ move ! (1 ∷ []) $ drop ! $
        let Given = λ (ys : List ℕ). fsep (feq ℕ (length ys) s.size) (lies_in s 0 ys) in
        let Back = λ (ys : List ℕ). (bare (Whole ∷ [])).own_val (with_items v.vec ys, tt) vss.0 in
        -- [the bytes; the way back; the tokens]
        rewrite ! 0 (λ k. ‵ (lies_in k p.first xs)) asked.0 refl $ rewrite ! 0 (λ k. ‵ (lies_in s k xs)) asked.1 refl $ feq_i ! ℕ (length xs) s.size asked.2 $ fjoin ! $ move ! (1 ∷ []) $
        use1 𝓛 (‵ (fwand (Given xs) (Back xs))) (all_e 𝓤 (λ ys. sem 𝓛 (fwand (Given ys) (Back ys))) xs) $ move ! (1 ∷ 0 ∷ []) $
        use2 𝓛 (‵ (Back xs)) (apply∗ 𝓤 (sem 𝓛 (Given xs)) (sem 𝓛 (Back xs))) $
        had_single ! Whole whole-laws (with_items v.vec xs) vss.0 (λ u is₀ good.
        regoal ! (λ (us : List Val). prop (WpFn 𝓤 H C Λ function (us ++ (vss.1.0 ++ [])) Post)) is₀ refl $
        regoal ! (λ (us : List Val). prop (WpFn 𝓤 H C Λ function ((single u ∷ []) ++ (us ++ [])) Post)) is₁ refl $
        enter ! C Λ function (single u ∷ none ∷ []) Post $ alloc_all ! (λ l. pass_all ! refl ((subst (Typed (Sole.the_row).mir) is₀ typed).0, ((tt, tt), tt)) $
        sets ! (of_opd ! (get_in ! (fld ! refl (stop !)) (sub ! 0 refl (whole !)))) refl good $
        sets ! (of_opd ! (get ! refl)) refl good $
        returns ! (look_at ! 0 refl) $ free_all ! refl $
        suffices ! _ (ends_at 𝓛 ended stayed held z u (with_items v.vec xs) (tt, (tt, tt)) (tt, (tt, tt))) $ says ! (with_items_is v.vec xs (asked.2 ∙ sym len)) $
        nothing ! $ nothing ! $ fjoin ! $ nothing ! $ fjoin ! $ move ! (2 ∷ 0 ∷ 1 ∷ []) $ done !)))))))

  meets : (𝓣 : Tables 𝓤 H) → Meets 𝓛 ended.signature (WpFn 𝓤 H 𝓣.C 𝓣.Λ function) (closing 𝓛 ended held)
  meets 𝓣 =
      walk_Meets 𝓛 ended stayed (Goes-blank 𝓛 0 (plain (λ _. Sole.the_row)) yes (λ κs x f. tt), (Goes-blank 𝓛 0 (plain (λ _. Plot.the_row)) yes (λ κs x f. tt), tt)) held
      (WpFn 𝓤 H 𝓣.C 𝓣.Λ function) (WpFn-mono 𝓤 H 𝓛.laws 𝓣 function) (walks 𝓣.C 𝓣.Λ)

pub whole_spec : {M : Type 1} → stated.statement M
unfolding tables_of
whole_spec 𝓤 𝓛 𝓜 𝓡 wired =
    let 𝓣 : Tables 𝓤 𝓛.H = tables_of 𝓤 𝓛.H 𝓜 (tables 𝓤 𝓛.H 𝓜 𝓡 𝓡.env) in
    entered 𝓤 𝓛.H (triple_of 𝓛 ended.signature (closing 𝓛 ended (held 𝓛 𝓜.mem 𝓡.returns))) 𝓣.C 𝓣.Λ #self function
    (code.unfolded 𝓤 𝓛.H 𝓜 𝓡 wired) (meets 𝓛 𝓜.mem 𝓡.returns 𝓣)
