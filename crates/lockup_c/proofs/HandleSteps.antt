-- What the walks of a handle share: it is a box at its pointer, or null. Assumes `Logic`.
use mathlib.Core.Path.{◌≡◌, refl, subst}
use mathlib.Core.Bool.{true, ◌&&◌}
use mathlib.Core.List.{List, [], ◌∷◌, ◌++◌}
use Prim.Native.Nat.{ℕ}
use lib.Dec.{T, lit<}
use seplogic.Ra.Ura.{Ura}
use mir.Raw.{raw as bare}
use mir.Syntax.{impl, tnil, dnil}
use mir.Val.{Val, vnull, vstruct, vcons, vnil, of_list, has_ty, WT}
use base.Fml.{Fml}
use base.Logic.{ent, guard, guard_i, snd∗, via}
use base.Fraction.{full_share}
use contract.Monad.{fact_use}
use types.Logic.{Logic, sem}
use types.Kit.{Item, Goal, Seq, Step, step, ‵, given, ◌$◌, move, drop, learn, use1, fsplit, fjoin, fpick, fpack, feq_i, feq_l}
use denote.RattleType.{RattleType, Valss}
use denote.Memory.{lone}
use denote.RawPtr.{Ptr, null_ptr, block_ptr, ptr_val, lies_at, Testable}
use denote.Signature.{Slot, plain}
use denote.Steps.{nothing}
use denote.Struct.Owning.{shape, fields, to}
use denote.Struct.Struct.{within}
use Rattle.std.proofs.BoxSteps.Form.{Bx, X, P}
use Rattle.std.proofs.alloc.Calls.{α, Fits, handle_tells, token}
use Rattle.std.proofs.GlobalToken.{dealloc_token-Testable}
use Rattle.std.proofs.ResultValues.{and_tt}
use Rattle.std.specs.Box.Ownership.{box_owns}
use Rattle.std.specs.Global.{Global}
use Rattle.std.specs.Prelude.{Option, Some, None}
use Rattle.std_heap.proofs.Global.TheLaws as global_laws
use Rattle.std_heap.specs.contracts.Global as Global-type
use Rattle.std_heap.specs.contracts.GlobalAllocator.TheImpl.{ghosts, dict}
use Rattle.lockup_c.proofs.held.Held.TheLaws as held_laws
use Rattle.lockup_c.specs.Owner.{owned_at}
use Rattle.lockup_c.specs.contracts.boxed_parts.BoxedParts as Parts-type
use Rattle.lockup_c.specs.contracts.handle.Handle as Handle-type
use Rattle.lockup_c.specs.contracts.held.Held as Held-type

-- a box of what a handle has
abbrev pub E : Bx
E = record { row = Held-type.the_row; laws = held_laws.the_row_laws; al = record { row = Global-type.the_row; laws = global_laws.the_row_laws; g = ghosts; d = dict; drops = impl [] tnil dnil } }

abbrev pub Handle : RattleType
Handle = Handle-type.the_row

abbrev pub Parts : RattleType
Parts = Parts-type.the_row Held-type.the_row Global-type.the_row ghosts

abbrev pub FromGlobal : Slot 0
FromGlobal = plain (λ _. Global-type.the_row)

abbrev pub FromParts : Slot 0
FromParts = plain (λ _. Parts)

abbrev pub FromHandle : Slot 0
FromHandle = plain (λ _. Handle)

-- a pointer together with the allocator's handle
abbrev pub both : Val → Val → Val
both v w = vstruct (vcons v (vcons w vnil))

pub null_typed : (hv : Val) → Fits E.al hv → T (has_ty (α E.al) hv && true) × WT (both vnull hv)
null_typed hv fits = (and_tt (has_ty (α E.al) hv) fits.0, (record { fits = lit< tt }, (fits.1, tt)))

abbrev pub boxed : Global → ℕ → ℕ → X E → Fml
boxed a b o x = box_owns (token E.al a) Held-type.the_row (block_ptr b o) x

module _ {M : Type 1} {𝓤 : Ura M} (𝓛 : Logic 𝓤) where
  -- a box's pointer may be compared with null
  pub tested : (a : Global) (b o : ℕ) (x : X E) → ent 𝓤 (sem 𝓛 (boxed a b o x)) (guard 𝓤 (Testable (block_ptr b o)) (sem 𝓛 (boxed a b o x)))
  tested a b o x =
      let p = block_ptr b o in
      fact_use 𝓤 (Testable p) (via 𝓤 _ (snd∗ 𝓤 (sem 𝓛 (lies_at Held-type.the_row full_share p x)) (sem 𝓛 (ghosts.dealloc_token a (bare (lone Held-type.the_row.mir)) p)))
      (dealloc_token-Testable 𝓛 a (bare (lone Held-type.the_row.mir)) p)) (guard_i 𝓤 (Testable p) (sem 𝓛 (boxed a b o x)))

module _ {M : Type 1} {𝓤 : Ura M} {𝓛 : Logic 𝓤} {K : Type 0} {Γ : List (Item 𝓤)} {G : Goal 𝓤 𝓛.H} where
  -- what is owned at a pointer: nothing at null, and else a box
  pub either : K → (a : Global) (p : Ptr) (held : Option (X E))
      → (p ≡ null_ptr → held ≡ None → Seq K 𝓛 Γ G)
      → ((b o : ℕ) (x : X E) → p ≡ block_ptr b o → held ≡ Some x → Testable (block_ptr b o)
      → Seq K 𝓛 (‵ (boxed a b o x) ∷ Γ) G)
      → Seq K 𝓛 (‵ (owned_at a p held) ∷ Γ) G
  either t a null_ptr None none some = drop t $ none refl refl
  either t a null_ptr (Some x) none some = fpick t (λ wrong. absurd wrong)
  either t a (block_ptr b o) None none some = fpick t (λ wrong. absurd wrong)
  either t a (block_ptr b o) (Some x) none some =
      use1 𝓛 (given (Testable (block_ptr b o)) (‵ (boxed a b o x))) (tested 𝓛 a b o x) $ learn t (λ test. some b o x refl refl test)

  -- a handle by value is [what is owned at its pointer; the allocator's handle]
  pub handle_out : K → (d : Handle.Denot) (vs : List Val)
      → ((hv : Val) → vs ≡ both (ptr_val d.at) hv ∷ [] → Fits E.al hv
      → Seq K 𝓛 (‵ (owned_at d.alloc d.at d.value) ∷ ‵ ((P E).own_val d.alloc (hv ∷ [])) ∷ Γ) G)
      → Seq K 𝓛 (‵ (Handle.own_val d vs) ∷ Γ) G
  handle_out t d vs k =
      fsplit t $ fpick t (λ fields. fsplit t $ feq_l t (λ is_struct. fsplit t $ feq_l t (λ is_ptr. fsplit t $ handle_tells E.al t d.alloc fields.1.0 (λ hv is_handle fits.
      move t (1 ∷ []) $ drop t $ move t (1 ∷ []) $ k hv
      (subst (λ (ws : List Val). vs ≡ vstruct (of_list (ptr_val d.at ∷ (ws ++ []))) ∷ []) is_handle
      (subst (λ (ps : List Val). vs ≡ vstruct (of_list (ps ++ (fields.1.0 ++ []))) ∷ []) is_ptr is_struct)) fits))))

  pub handle_in : K → (d : Handle.Denot) (hv : Val)
      → Step K 𝓛 (‵ (Handle.own_val d (both (ptr_val d.at) hv ∷ [])) ∷ Γ) G (‵ (owned_at d.alloc d.at d.value) ∷ ‵ ((P E).own_val d.alloc (hv ∷ [])) ∷ Γ) G
  handle_in t d hv = step (λ s. let v : Val = both (ptr_val d.at) hv in
      nothing t $ move t (2 ∷ 0 ∷ []) $ fjoin t $ feq_i t (List Val) (ptr_val d.at ∷ []) (ptr_val d.at ∷ []) refl $ fjoin t $ feq_i t (List Val) (v ∷ []) (v ∷ []) refl $ fjoin t $
      fpack t (Valss (fields Handle-type.the_type)) (within (shape Handle-type.the_type) (to Handle-type.the_type d) (v ∷ [])) (ptr_val d.at ∷ [], (hv ∷ [], tt)) $ fjoin t $ s)
