-- W-201 kept every valid syllable and its list, brought huơ, khuơ and thuơ with each tone and no other, and admits what was admitted.
use mathlib.Core.Path.{◌≡◌, refl, sym, ap, subst, ◌∙◌}
use mathlib.Core.Bool.{Bool, true, false, not, ◌&&◌, ◌||◌, or-true}
use mathlib.Core.List.{List, [], ◌∷◌, ◌++◌, map, append-nil}
use mathlib.Core.Logic.{◌⊎◌, inl, inr}
use Prim.Native.Nat.{ℕ, zero, suc, ◌≤◌, ◌<◌}
use Prim.Native.Char.{code}
use native.Mathlib.Omega.{arith}
use lib.Dec.{T, eqb, lit<}
use lib.ListN.{length, take, get_or}
use lib.Ieee.Fits.{and_i, and_l, and_r, eq→eqb}
use Rattle.rules.specs.Letters.{Letters, plain, horn, dot, acute, elem, named, word, words, same, some_word, one_of, is_nil, first_base}
use Rattle.rules.specs.TakingApart.{Row, rows, stands, takes, some_row, is_this, listed, agrees_at, agrees, could_be, some_agrees, admitted, first_that_holds, one_to_five, joins, fit, initials, finals, initial, nucleus, final, leftovers, fits, verdict}
use Rattle.rules.specs.Speller.{shape_key, tone_keys, standard_keys}
use Rattle.rules.specs.Refusals.{is_mode}
use Rattle.rules.specs.Syllables.{bare_keys}
use Rattle.rules.proofs.Tests.{either as or_else, or_l, is_true, some_both, some_row_both}
use Rattle.rules.proofs.Bools.{pick, either, and_if, and_so, or_so, or_rest}
use Rattle.forms.specs.Forms.{capitals, cased_as}
use Rattle.forms.specs.Gained.{rows_before, listed_before, verdict_before, some_agrees_before, admitted_before, is_new}
use Rattle.forms.specs.Spelling.{Gives}
use Rattle.forms.proofs.Bridge.{by_checks, passed, parts}
use Rattle.forms.proofs.Cases.{same_cased, same_append}
use Rattle.forms.proofs.StandardList.{standard_list}

-- a question to a table with one nucleus more, at its end
abbrev last_row : Row
last_row = get_or rows 7 (record { nuclei = []; ends = []; bare = false })

abbrev is_uơ : Letters → Letters → Letters → Bool
is_uơ ini nuc fin = is_this ini nuc fin last_row (word "uơ")

-- a question that looks at a row's finals alone, and so does not tell the last row from what it was
abbrev last_before : Row
last_before = get_or rows_before 7 last_row

with_uơ : (f : Row → Letters → Bool) → ((z : Letters) → f last_row z ≡ f last_before z) → some_row f rows ≡ (some_row f rows_before || f last_row (word "uơ"))
with_uơ f e =
    let others = some_row f (take 7 rows) in
    let new = f last_row (word "uơ") in
    let last = some_both (f last_row) last_before.nuclei (word "uơ" ∷ []) ∙ ap (λ (g : Letters → Bool). some_word g last_before.nuclei || pick true new false) (λ j z. e z j) in
    some_row_both f (take 7 rows) (last_row ∷ []) ∙ ap (λ (b : Bool). others || pick true b false) last ∙ go others (some_word (f last_before) last_before.nuclei) new ∙
    ap (λ (b : Bool). b || new) (sym (some_row_both f (take 7 rows) (last_before ∷ [])))
  where
    go : (a b c : Bool) → (a || pick true (b || pick true c false) false) ≡ ((a || pick true b false) || c)
    go true b c = refl
    go false true c = refl
    go false false true = refl
    go false false false = refl

one_more : (ini nuc fin : Letters) → listed ini nuc fin ≡ (listed_before ini nuc fin || is_uơ ini nuc fin)
unfolding listed
one_more ini nuc fin = with_uơ (is_this ini nuc fin) (λ z. refl)

-- uơ takes no final
no_final : (ini fin : Letters) → T (takes ini last_row (word "uơ") fin) → fin ≡ []
no_final ini [] u = refl
no_final ini (x ∷ fin) u = absurd (and_r (same ini (word "gi")) false u)

-- what could become uơ could become ươ, so nothing is admitted that was not
some_at : (f : Letters → Bool) (zs : List Letters) (i : ℕ) → i < length zs → T (f (get_or zs i [])) → T (some_word f zs)
some_at f [] i h t = absurd (omega arith)
some_at f (z ∷ zs) zero h t = or_so (f z) (some_word f zs) t
some_at f (z ∷ zs) (suc i) h t = or_rest (f z) (some_word f zs) (some_at f zs i (omega arith) t)

some_row_at : (f : Row → Letters → Bool) (rs : List Row) (i : ℕ) → i < length rs → T (some_word (f (get_or rs i last_row)) (get_or rs i last_row).nuclei) → T (some_row f rs)
some_row_at f [] i h t = absurd (omega arith)
some_row_at f (r ∷ rs) zero h t = or_so (some_word (f r) r.nuclei) (some_row f rs) t
some_row_at f (r ∷ rs) (suc i) h t = or_rest (some_word (f r) r.nuclei) (some_row f rs) (some_row_at f rs i (omega arith) t)

agrees_ươ : (nuc : Letters) → T (agrees nuc (word "uơ")) → T (agrees nuc (word "ươ"))
agrees_ươ (x ∷ nuc) t =
    let (a, more) = and_if (agrees_at x (named (code "u"))) (agrees nuc (word "ơ")) t in
    let u = and_l (eqb x.base (code "u")) (eqb x.shape plain || eqb x.shape plain) a in
    and_so (agrees_at x (named (code "ư"))) (agrees nuc (word "ơ"))
    (and_i (eqb x.base (code "u")) (eqb x.shape plain || eqb x.shape horn) u
    (go (eqb x.shape plain) (eqb x.shape horn) (and_r (eqb x.base (code "u")) (eqb x.shape plain || eqb x.shape plain) a))) more
  where
    go : (p q : Bool) → T (p || p) → T (p || q)
    go true q t = tt
    go false q t = elim t [ ]
agrees_ươ [] t = elim t [ ]

stands_ươ : (ini : Letters) → T (stands ini (word "ươ"))
stands_ươ ini = go (same ini (word "qu"))
  where
    go : (p : Bool) → T (not (p && false) && true)
    go true = tt
    go false = tt

nothing_behind : (ini fin : Letters) → T (is_nil fin || takes ini last_row (word "uơ") fin) → T (is_nil fin)
nothing_behind ini [] t = tt
nothing_behind ini (x ∷ fin) t = absurd (and_r (same ini (word "gi")) false t)

as_ươ : (ini nuc fin : Letters) → T (could_be ini nuc fin last_row (word "uơ")) → T (some_agrees_before ini nuc fin)
as_ươ ini nuc fin t =
    let (a, s) = and_if (agrees nuc (word "uơ")) (stands ini (word "uơ") && (is_nil fin || takes ini last_row (word "uơ") fin)) t in
    let e = nothing_behind ini fin (and_r (stands ini (word "uơ")) (is_nil fin || takes ini last_row (word "uơ") fin) s) in
    let r = get_or rows_before 2 last_row in
    some_row_at (could_be ini nuc fin) rows_before 2 (lit< tt) (some_at (could_be ini nuc fin r) r.nuclei 7 (lit< tt)
    (and_so (agrees nuc (word "ươ")) (stands ini (word "ươ") && (is_nil fin || takes ini r (word "ươ") fin)) (agrees_ươ nuc a)
    (and_i (stands ini (word "ươ")) (is_nil fin || takes ini r (word "ươ") fin) (stands_ươ ini) (or_l (is_nil fin) (takes ini r (word "ươ") fin) e))))

same_answers : (ini nuc fin : Letters) → some_agrees ini nuc fin ≡ some_agrees_before ini nuc fin
unfolding some_agrees
same_answers ini nuc fin =
    with_uơ (could_be ini nuc fin) (λ z. refl) ∙ go (some_agrees_before ini nuc fin) (could_be ini nuc fin last_row (word "uơ")) (as_ươ ini nuc fin)
  where
    go : (a b : Bool) → (T b → T a) → (a || b) ≡ a
    go true b h = refl
    go false true h = absurd (h tt)
    go false false h = refl

pub same_admission : (w : Letters) → admitted w ≡ admitted_before w
unfolding admitted admitted_before
same_admission w = ap (λ (b : Bool). elim (eqb (first_that_holds (one_to_five w)) 0) [ true ↦ b | false ↦ false ]) (same_answers (initial w) (nucleus w) (final w))

-- one of some words, and one word behind it
one_and : (v u y : Letters) (zs : List Letters) → T (same u y) → T (one_of v zs) → T (one_of (v ++ u) (map (λ z. z ++ y) zs))
one_and v u y (z ∷ zs) h t =
    let more = one_and v u y zs h in
    either (same v z) (one_of v zs) (λ s. or_so (same (v ++ u) (z ++ y)) (one_of (v ++ u) (map (λ z. z ++ y) zs)) (same_append v u z y s h))
    (λ s. or_rest (same (v ++ u) (z ++ y)) (one_of (v ++ u) (map (λ z. z ++ y) zs)) (more s)) t
one_and v u y [] h t = elim t [ ]

module _ (w : Letters) (t : ℕ) where
  -- the verdict, by what check 6 asks
  abbrev by_list : Bool → ℕ
  by_list l = by_checks (is_nil (nucleus w)) (one_of (initial w) initials) (is_nil (leftovers w)) (fit (initial w) (first_base (nucleus w))) (one_of (final w) finals) l (fits (final w) t)

  now_by : verdict w t ≡ by_list (listed (initial w) (nucleus w) (final w))
  unfolding verdict
  now_by = refl

  before_by : verdict_before w t ≡ by_list (listed_before (initial w) (nucleus w) (final w))
  unfolding verdict_before
  before_by = refl

  was_listed : by_list (listed_before (initial w) (nucleus w) (final w)) ≡ 0 → T (listed_before (initial w) (nucleus w) (final w))
  was_listed e =
      go (is_nil (nucleus w)) (one_of (initial w) initials) (is_nil (leftovers w)) (fit (initial w) (first_base (nucleus w))) (one_of (final w) finals) (listed_before (initial w) (nucleus w) (final w)) (fits (final w) t) (eq→eqb e)
    where
      go : (e i n f g l s : Bool) → T (eqb (by_checks e i n f g l s) 0) → T l
      go false true true true true true true h = tt
      go false false n f g l s h = elim h [ ]
      go false true false f g l s h = elim h [ ]
      go false true true false g l s h = elim h [ ]
      go false true true true false l s h = elim h [ ]
      go false true true true true false s h = elim h [ ]
      go false true true true true true false h = elim h [ ]
      go true i n f g l s h = elim h [ ]

  listed_as : (b : Bool) → T (listed_before (initial w) (nucleus w) (final w)) → T b → by_list b ≡ by_list (listed_before (initial w) (nucleus w) (final w))
  listed_as b p q = ap by_list (is_true b q ∙ sym (is_true (listed_before (initial w) (nucleus w) (final w)) p))

  -- what was valid is valid
  pub still_valid : verdict_before w t ≡ 0 → verdict w t ≡ 0
  still_valid e =
      let old = listed_before (initial w) (nucleus w) (final w) in
      let p = was_listed (sym before_by ∙ e) in
      now_by ∙ listed_as (listed (initial w) (nucleus w) (final w)) p (rw (one_more (initial w) (nucleus w) (final w)) (or_l old (is_uơ (initial w) (nucleus w) (final w)) p)) ∙ sym before_by ∙ e

  -- what is valid was valid, or is new
  new_word : T (is_nil (leftovers w)) → T (is_uơ (initial w) (nucleus w) (final w)) → T (is_new w)
  new_word whole u =
      let (n, s) = and_if (same (nucleus w) (word "uơ")) (stands (initial w) (word "uơ") && takes (initial w) last_row (word "uơ") (final w)) u in
      let h = and_r (not (same (initial w) (word "qu") && false)) (one_of (initial w) (words "h kh th")) (and_l (stands (initial w) (word "uơ")) (takes (initial w) last_row (word "uơ") (final w)) s) in
      let f = no_final (initial w) (final w) (and_r (stands (initial w) (word "uơ")) (takes (initial w) last_row (word "uơ") (final w)) s) in
      let e : initial w ++ nucleus w ≡ w = ap (◌++◌ (initial w)) (sym (append-nil (nucleus w)) ∙ ap (◌++◌ (nucleus w)) (sym f)) ∙ parts w whole in
      subst (λ (v : Letters). T (is_new v)) e (one_and (initial w) (nucleus w) (word "uơ") (words "h kh th") n h)

  pub kept_or_new : verdict w t ≡ 0 → (verdict_before w t ≡ 0) ⊎ T (is_new w)
  kept_or_new e =
      let v = passed w t e in
      let old = listed_before (initial w) (nucleus w) (final w) in
      or_else old (is_uơ (initial w) (nucleus w) (final w))
      (λ p. inl (before_by ∙ sym (listed_as (listed (initial w) (nucleus w) (final w)) p v.list) ∙ sym now_by ∙ e))
      (λ u. inr (new_word v.whole u)) (rw (sym (one_more (initial w) (nucleus w) (final w))) v.list)

-- each that is new, in whatever case
new_as : (P : Letters → Type 0) → ((cs : List Bool) → P (cased_as cs (word "huơ"))) → ((cs : List Bool) → P (cased_as cs (word "khuơ"))) → ((cs : List Bool) → P (cased_as cs (word "thuơ"))) → (w : Letters) → T (is_new w) → P w
new_as P h k l w t =
    either (same w (word "huơ")) (one_of w (words "khuơ thuơ")) (as_cased (word "huơ") h)
    (either (same w (word "khuơ")) (one_of w (words "thuơ")) (as_cased (word "khuơ") k)
    (either (same w (word "thuơ")) false (as_cased (word "thuơ") l) (λ f. absurd f))) t
  where
    as_cased : (z : Letters) → ((cs : List Bool) → P (cased_as cs z)) → T (same w z) → P w
    as_cased z q s = subst P (sym (same_cased w z s)) (q (capitals w))

any_tone : (t : ℕ) → fits [] t ≡ true
unfolding fits
any_tone t = or-true (elem t (acute ∷ dot ∷ []))

abbrev IsNew : Letters → Type 0
IsNew w = (t : ℕ) → (verdict w t ≡ 0) × (verdict_before w t ≡ 6)

-- is valid with every tone, and was not
pub new_valid : (w : Letters) → T (is_new w) → (t : ℕ) → (verdict w t ≡ 0) × (verdict_before w t ≡ 6)
unfolding verdict verdict_before listed fit joins initial nucleus final leftovers
new_valid = new_as IsNew (λ cs t. (ap tone (any_tone t), refl)) (λ cs t. (ap tone (any_tone t), refl)) (λ cs t. (ap tone (any_tone t), refl))
  where
    tone : Bool → ℕ
    tone b = elim (not b) [ true ↦ 7 | false ↦ 0 ]

-- Its list is its letters, the horn key and the tone key; and every other syllable is typed by the list that it had, for the standard list asks no table.
abbrev Listed : Letters → Type 0
Listed w = (mode t : ℕ) → standard_keys mode w t ≡ bare_keys w ++ (shape_key mode (named (code "ơ")) ∷ tone_keys mode t)

pub new_lists : (w : Letters) → T (is_new w) → (mode t : ℕ) → standard_keys mode w t ≡ bare_keys w ++ (shape_key mode (named (code "ơ")) ∷ tone_keys mode t)
unfolding standard_keys
new_lists = new_as Listed (λ cs mode t. refl) (λ cs mode t. refl) (λ cs mode t. refl)

pub old_lists : (m : ℕ) → T (is_mode m) → (w : Letters) (t : ℕ) → t ≤ dot → verdict_before w t ≡ 0 → Gives m (standard_keys m w t) w t
old_lists m mode w t d e = standard_list m mode w t (record { valid = still_valid w t e; tone = d })
