-- Steps that the walks of `src/raw` share: structs with no field, and pairs of two values. Assumes `Logic`.
use Rattle.std.proofs.Common.{◌≡◌, List, [], ◌∷◌, refl}
use lib.Dec.{T}
use seplogic.Ra.Ura.{Ura}
use mir.Syntax.{given as dict_at}
use mir.Val.{Val, vstruct, vcons, vnil, has_ty, WT}
use base.Fml.{ftrue}
use types.Logic.{Logic}
use types.Kit.{Goal, Seq, Step, step, Item, ‵, ◌$◌, move, drop, fsplit, fjoin, fpick, fpack, feq_l, feq_i}
use denote.RattleType.{RattleType, Valss}
use denote.Param.{layout}
use denote.Param.Laws.{Laws}
use denote.Steps.{nothing}
use denote.Struct.Struct.{Struct, within}
use Rattle.std.proofs.alloc.Calls.{handle_tells}

-- v is a value of the type
abbrev pub Fine : RattleType → Val → Type 0
Fine R v = T (has_ty (layout R) v) × WT v

-- a struct of these fields, under no name
abbrev pub bare : List RattleType → RattleType
bare Rs = Struct (record { name = []; args = []; types = []; fields = Rs })

abbrev pub none : Val
none = vstruct vnil

abbrev pub single : Val → Val
single u = vstruct (vcons u vnil)

abbrev pub pair : Val → Val → Val
pair u v = vstruct (vcons u (vcons v vnil))

module _ {M : Type 1} {𝓤 : Ura M} {𝓛 : Logic 𝓤} {K : Type 0} {Γ : List (Item 𝓤)} {G : Goal 𝓤 𝓛.H} where
  -- what is owned is one machine value, of its type
  pub one_value : K → (R : RattleType) → Laws R → (x : R.Denot) (vs : List Val) → ((v : Val) → vs ≡ v ∷ [] → Fine R v → Seq K 𝓛 (‵ (R.own_val x (v ∷ [])) ∷ Γ) G) → Seq K 𝓛 (‵ (R.own_val x vs) ∷ Γ) G
  one_value t R L = handle_tells (record { row = R; laws = L; g = record { dealloc_token = λ a τ p. ftrue }; d = dict_at 0; drops = dict_at 0 }) t

  -- a struct with no field, made
  pub makes_none : K → Step K 𝓛 (‵ ((bare []).own_val tt (none ∷ [])) ∷ Γ) G Γ G
  makes_none t = step (λ s.
      nothing t $ feq_i t (List Val) (none ∷ []) (none ∷ []) refl $ fjoin t $
      fpack t (Valss []) (within (record { name = []; args = []; types = []; fields = [] }) tt (none ∷ [])) tt $ s)

  -- one of one field
  pub makes_single : K → (R : RattleType) (x : R.Denot) (u : Val) → Step K 𝓛 (‵ ((bare (R ∷ [])).own_val (x, tt) (single u ∷ [])) ∷ Γ) G (‵ (R.own_val x (u ∷ [])) ∷ Γ) G
  makes_single t R x u = step (λ s.
      nothing t $ move t (1 ∷ 0 ∷ []) $ fjoin t $ feq_i t (List Val) (single u ∷ []) (single u ∷ []) refl $ fjoin t $
      fpack t (Valss (R ∷ [])) (within (record { name = []; args = []; types = []; fields = R ∷ [] }) (x, tt) (single u ∷ [])) (u ∷ [], tt) $ s)

  -- a pair
  pub makes_pair : K → (R S : RattleType) (x : R.Denot) (y : S.Denot) (u v : Val)
      → Step K 𝓛 (‵ ((bare (R ∷ S ∷ [])).own_val (x, (y, tt)) (pair u v ∷ [])) ∷ Γ) G (‵ (R.own_val x (u ∷ [])) ∷ ‵ (S.own_val y (v ∷ [])) ∷ Γ) G
  makes_pair t R S x y u v = step (λ s.
      nothing t $ move t (2 ∷ 0 ∷ []) $ fjoin t $ move t (1 ∷ 0 ∷ []) $ fjoin t $ feq_i t (List Val) (pair u v ∷ []) (pair u v ∷ []) refl $ fjoin t $
      fpack t (Valss (R ∷ S ∷ [])) (within (record { name = []; args = []; types = []; fields = R ∷ S ∷ [] }) (x, (y, tt)) (pair u v ∷ [])) (u ∷ [], (v ∷ [], tt)) $ s)

  -- a struct of one field, taken apart
  pub had_single : K → (R : RattleType) → Laws R → (x : R.Denot) (vs : List Val) → ((u : Val) → vs ≡ single u ∷ [] → Fine R u → Seq K 𝓛 (‵ (R.own_val x (u ∷ [])) ∷ Γ) G)
      → Seq K 𝓛 (‵ ((bare (R ∷ [])).own_val (x, tt) vs) ∷ Γ) G
  had_single t R L x vs k =
      fpick t (λ vss. fsplit t $ feq_l t (λ e. fsplit t $ move t (1 ∷ []) $ drop t $ one_value t R L x vss.0 (λ u is good.
      k u (rw is at e) good)))

  -- a struct with no field, taken apart
  pub had_none : K → (vs : List Val) → (vs ≡ none ∷ [] → Seq K 𝓛 Γ G) → Seq K 𝓛 (‵ ((bare []).own_val tt vs) ∷ Γ) G
  had_none t vs k = fpick t (λ vss. fsplit t $ feq_l t (λ e. drop t $ k e))
