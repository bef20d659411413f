-- The whole reading: more steps than bytes change nothing, it goes on from step to step, and what each step says of the rest.
use Rattle.std.specs.Prelude.{Some, None, Ok, Err, Option, Result}
use mathlib.Core.Path.{◌≡◌, refl, sym, ap, subst, ◌∙◌}
use mathlib.Core.List.{List, []}
use Prim.Native.Nat.{ℕ, zero, suc, ◌+◌, ◌-◌, ◌≤◌, ◌<◌}
use native.Mathlib.Omega.{arith}
use lib.ListN.{length}
use Rattle.rules.specs.declared.Refusal.{Refusal}
use Rattle.recording.specs.Recordings.{onward, step_at, Reading, broken, presses, before, and_then, read_from}
use Rattle.recording.specs.declared.Progress.{Progress}
use Rattle.recording.specs.declared.KeyPress.{KeyPress}
use Rattle.recording.specs.declared.Stepped.{Stepped}
use Rattle.recording.proofs.Presses.{IsFine, is_fine}
use Rattle.recording.proofs.Meets.{Meets, the_end, a_refusal, a_press, meets}

module _ (s : List ℕ) where
  -- what is read from a place on, with as many steps as the bytes that are left
  abbrev pub rest_from : ℕ → Progress → Reading
  rest_from at p = read_from (length s - at) s at p

  abbrev goes_on : ℕ → Stepped → Reading
  goes_on n t = and_then t.press (read_from n s t.at t.progress)

  none_left : (n at : ℕ) (p : Progress) → length s ≤ at → read_from n s at p ≡ presses []
  none_left zero at p h = refl
  none_left (suc n) at p h = go (step_at s at p) (meets s at p)
    where
      go : (t : Stepped) → Meets s at p t → goes_on n t ≡ presses []
      go t (the_end l) = refl
      go t (a_refusal r l) = absurd (omega arith)
      go t (a_press x next c l m b) = absurd (omega arith)

  pub enough : (n m at : ℕ) (p : Progress) → length s - at ≤ n → length s - at ≤ m → read_from n s at p ≡ read_from m s at p
  enough zero m at p h l = sym (none_left m at p (omega arith))
  enough (suc n) zero at p h l = none_left (suc n) at p (omega arith)
  enough (suc n) (suc m) at p h l = go (step_at s at p) (meets s at p) (λ next q i j. enough n m next q i j)
    where
      go : (t : Stepped) → Meets s at p t → ((next : ℕ) (q : Progress) → length s - next ≤ n → length s - next ≤ m → read_from n s next q ≡ read_from m s next q) → goes_on n t ≡ goes_on m t
      go t (the_end k) more = refl
      go t (a_refusal r k) more = refl
      go t (a_press x next c k i b) more = ap (before x) (more next (onward p x) (omega arith) (omega arith))

  -- from step to step
  module _ (at : ℕ) (p : Progress) where
    pub at_a_step : at < length s → rest_from at p ≡ and_then (step_at s at p).press (rest_from (step_at s at p).at (step_at s at p).progress)
    at_a_step h =
        let one : length s - at ≡ suc (length s - at - 1) = omega arith in
        ap (λ (n : ℕ). read_from n s at p) one ∙ go (step_at s at p) (meets s at p)
      where
        go : (t : Stepped) → Meets s at p t → goes_on (length s - at - 1) t ≡ and_then t.press (rest_from t.at t.progress)
        go t (the_end k) = refl
        go t (a_refusal r k) = refl
        go t (a_press x next c k i b) = ap (before x) (enough (length s - at - 1) (length s - next) next (onward p x) (omega arith) (omega arith))

    pub past_the_end : length s ≤ at → rest_from at p ≡ presses []
    past_the_end h = none_left (length s - at) at p h

-- what a step that was made says of what is still to be read
pub record MetPress (s : List ℕ) (at : ℕ) (p : Progress) (t : Stepped) (x : KeyPress) : Type 0 where
  pub fine : IsFine p x
  pub on : at + 2 ≤ t.at
  pub within : t.at ≤ length s
  pub moved : t.progress ≡ onward p x
  pub read : rest_from s at p ≡ before x (rest_from s t.at (onward p x))

-- the three things that a step meets are three
end_press : {A : Type 0} {x : KeyPress} → ◌≡◌ {A = Result (Option KeyPress) Refusal} (Ok None) (Ok (Some x)) → A
end_press e = let z : ◌≡◌ {A = ℕ} 0 1 = cc in absurd (omega arith)

refused_press : {A : Type 0} {r : Refusal} {x : KeyPress} → ◌≡◌ {A = Result (Option KeyPress) Refusal} (Err r) (Ok (Some x)) → A
refused_press e = let z : ◌≡◌ {A = ℕ} 0 1 = cc in absurd (omega arith)

end_refused : {A : Type 0} {r : Refusal} → ◌≡◌ {A = Result (Option KeyPress) Refusal} (Ok None) (Err r) → A
end_refused e = let z : ◌≡◌ {A = ℕ} 0 1 = cc in absurd (omega arith)

same_press : {x y : KeyPress} → ◌≡◌ {A = Result (Option KeyPress) Refusal} (Ok (Some x)) (Ok (Some y)) → x ≡ y
same_press e = cc

same_refusal : {x y : Refusal} → ◌≡◌ {A = Result (Option KeyPress) Refusal} (Err x) (Err y) → x ≡ y
same_refusal e = cc

module _ (s : List ℕ) (at : ℕ) (p : Progress) where
  abbrev Goes : Stepped → Type 0
  Goes t = at < length s → rest_from s at p ≡ and_then t.press (rest_from s t.at t.progress)

  by_press : (x : KeyPress) (t : Stepped) → Meets s at p t → Goes t → t.press ≡ Ok (Some x) → MetPress s at p t x
  by_press x t (the_end l) g e = end_press e
  by_press x t (a_refusal r l) g e = refused_press e
  by_press x t (a_press y next c l i b) g e = subst (MetPress s at p t) (same_press e) (record { fine = is_fine p y 0 0 c; on = l; within = i; moved = refl; read = g (omega arith) })

  by_refusal : (r : Refusal) (t : Stepped) → Meets s at p t → Goes t → t.press ≡ Err r → rest_from s at p ≡ broken r
  by_refusal r t (the_end l) g e = end_refused e
  by_refusal r t (a_refusal q l) g e = g l ∙ ap broken (same_refusal e)
  by_refusal r t (a_press y next c l i b) g e = refused_press (sym e)

  by_end : (t : Stepped) → Meets s at p t → t.press ≡ (Ok None) → rest_from s at p ≡ presses []
  by_end t (the_end l) e = past_the_end s at p l
  by_end t (a_refusal q l) e = end_refused (sym e)
  by_end t (a_press y next c l i b) e = end_press (sym e)

  module _ {t : Stepped} (is : t ≡ step_at s at p) where
    met : Meets s at p t
    met = subst (Meets s at p) (sym is) (meets s at p)

    goes : Goes t
    goes h = at_a_step s at p h ∙ ap (λ (u : Stepped). and_then u.press (rest_from s u.at u.progress)) (sym is)

    pub met_press : (x : KeyPress) → t.press ≡ Ok (Some x) → MetPress s at p t x
    met_press x e = by_press x t met goes e

    pub met_refusal : (r : Refusal) → t.press ≡ Err r → rest_from s at p ≡ broken r
    met_refusal r e = by_refusal r t met goes e

    pub met_end : t.press ≡ (Ok None) → rest_from s at p ≡ presses []
    met_end e = by_end t met e
