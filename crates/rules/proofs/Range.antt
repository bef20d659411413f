-- A record is in range if each condition holds, and only then.
use mathlib.Core.Path.{◌≡◌, sym, subst}
use mathlib.Core.Bool.{Bool, true, false, not, ◌||◌}
use mathlib.Core.List.{List, [], ◌∷◌}
use Prim.Native.Nat.{ℕ, ◌+◌, ◌≤◌}
use native.Mathlib.Omega.{arith}
use lib.Dec.{T, eqb, eqb→eq, ltb, ltb→lt, nltb→le, not_T}
use lib.ListN.{take}
use lib.Ieee.Fits.{eq→eqb}
use Rattle.rules.specs.Letters.{dot}
use Rattle.rules.specs.TheWord.{most_keys}
use Rattle.rules.specs.KeyRoles.{is_key}
use Rattle.rules.specs.Refusals.{all, any, all_letters, is_mode, counts_over, letter_allowed, shape_carried, no_capital_digit, is_place, is_place_or_none, range_faults, out_of_range}
use Rattle.rules.specs.declared.Word.{Word}
use Rattle.rules.proofs.Numbers.{NumbersInRange}

-- none of these holds
data NoneOf : List Bool → Type 0 where
  none_left : NoneOf []
  not_this : {b : Bool} {bs : List Bool} → T (not b) → NoneOf bs → NoneOf (b ∷ bs)

none_of : (bs : List Bool) → T (not (any bs)) → NoneOf bs
none_of [] t = none_left
none_of (b ∷ []) t = not_this t none_left
none_of (true ∷ c ∷ cs) t = absurd t
none_of (false ∷ c ∷ cs) t = not_this tt (none_of (c ∷ cs) t)

not_any : {bs : List Bool} → NoneOf bs → T (not (any bs))
not_any none_left = tt
not_any (not_this t none_left) = t
not_any (not_this {b = b} t (not_this {b = c} {bs = cs} u n)) = go b (any (c ∷ cs)) t (not_any (not_this {b = c} {bs = cs} u n))
  where
    go : (b d : Bool) → T (not b) → T (not d) → T (not (b || d))
    go true d t u = t
    go false d t u = u

pub record InRange (w : Word) : Type 0 where
  pub typed : w.typed ≤ most_keys
  pub count : w.count ≤ most_keys
  pub acted : w.acted ≤ most_keys
  pub undone : w.undone ≤ most_keys
  pub appended : w.appended ≤ most_keys
  pub fewer : w.count ≤ w.typed
  pub sum : w.acted + w.undone + w.appended ≡ w.typed
  pub keys : T (all (is_key w.mode) (take w.typed w.keys))
  pub letters : NumbersInRange w.mode (take w.count w.letters)
  pub tone : w.tone ≤ dot
  pub mode : T (is_mode w.mode)
  pub by : T (all (is_place w.typed) (take w.count w.appended_by))
  pub shaped_by : T (all (is_place_or_none w.typed) (take w.count w.shaped_by))
  pub toned_by : T (is_place_or_none w.typed w.toned_by)

pub not_not : (b : Bool) → T (not (not b)) → T b
not_not true t = tt
not_not false t = absurd t

pub twice : (b : Bool) → T b → T (not (not b))
twice true t = tt
twice false t = t

pub not_over : (m n : ℕ) → n ≤ m → T (not (ltb m n))
not_over m n h = not_T (ltb m n) (λ t. omega (arith, ltb→lt m n t))

pub range_in : (w : Word) → InRange w → T (not (out_of_range w))
unfolding out_of_range
range_in w r =
    let counts : NoneOf (counts_over w) =
    not_this (not_over most_keys w.typed r.typed)
    (not_this (not_over most_keys w.count r.count)
    (not_this (not_over most_keys w.acted r.acted)
    (not_this (not_over most_keys w.undone r.undone)
    (not_this (not_over most_keys w.appended r.appended) none_left)))) in
    let none : NoneOf (range_faults w) =
    not_this (not_any counts)
    (not_this (not_over w.typed w.count r.fewer)
    (not_this (twice (eqb (w.acted + w.undone + w.appended) w.typed) (eq→eqb r.sum))
    (not_this (twice (all (is_key w.mode) (take w.typed w.keys)) r.keys)
    (not_this (twice (all (letter_allowed w.mode) (take w.count w.letters)) r.letters.allowed)
    (not_this (twice (all_letters shape_carried (take w.count w.letters)) r.letters.carried)
    (not_this (twice (all_letters no_capital_digit (take w.count w.letters)) r.letters.digit)
    (not_this (not_over dot w.tone r.tone)
    (not_this (twice (is_mode w.mode) r.mode)
    (not_this (twice (all (is_place w.typed) (take w.count w.appended_by)) r.by)
    (not_this (twice (all (is_place_or_none w.typed) (take w.count w.shaped_by)) r.shaped_by)
    (not_this (twice (is_place_or_none w.typed w.toned_by) r.toned_by) none_left))))))))))) in
    not_any none

said : (w : Word) → NoneOf (range_faults w) → NoneOf (counts_over w) → InRange w
said w (not_this over (not_this fewer (not_this sum (not_this keys (not_this allowed (not_this carried (not_this digit (not_this tone (not_this mode (not_this by (not_this shaped (not_this toned none_left))))))))))))
    (not_this t (not_this c (not_this a (not_this u (not_this p none_left))))) =
    record {
      typed = nltb→le most_keys w.typed t;
      count = nltb→le most_keys w.count c;
      acted = nltb→le most_keys w.acted a;
      undone = nltb→le most_keys w.undone u;
      appended = nltb→le most_keys w.appended p;
      fewer = nltb→le w.typed w.count fewer;
      sum = eqb→eq (w.acted + w.undone + w.appended) w.typed (search not_not);
      keys = search not_not;
      letters = record { allowed = search not_not; carried = search not_not; digit = search not_not };
      tone = nltb→le dot w.tone tone;
      mode = search not_not;
      by = not_not (all (is_place w.typed) (take w.count w.appended_by)) by;
      shaped_by = not_not (all (is_place_or_none w.typed) (take w.count w.shaped_by)) shaped;
      toned_by = not_not (is_place_or_none w.typed w.toned_by) toned;
    }

counted : (w : Word) → NoneOf (range_faults w) → T (not (any (counts_over w)))
counted w (not_this over n) = over

pub in_range : (w : Word) → T (not (out_of_range w)) → InRange w
unfolding out_of_range
in_range w t = said w (none_of (range_faults w) t) (none_of (counts_over w) (counted w (none_of (range_faults w) t)))

-- a word in range has at most 32 letters
pub few_letters : (w : Word) → out_of_range w ≡ false → w.count ≤ most_keys
few_letters w e = (in_range w (subst (λ (b : Bool). T (not b)) (sym e) tt)).count
