-- 6 What a key does (docs/RULES.md): the keys and their roles in both modes, and the rules for one key.
use Rattle.std.specs.Prelude.{Bool, true, false, not, ◌&&◌, ◌||◌, List, [], ◌∷◌, ◌++◌, ℕ, suc, ◌+◌, eqb, leb}
use Prim.Native.Char.{code}
use Rattle.rules.specs.Letters.{Letter, Letters, plain, circumflex, breve, horn, stroke, no_tone, acute, grave, hook, tilde, dot, telex, vni, among, words, one_of, named, is, is_nil}
use Rattle.rules.specs.TakingApart.{admitted, final, fits}
use Rattle.rules.specs.TheWord.{State, Typed, Done, acted, undone, appended, counted}
use Rattle.rules.specs.declared.Role.{Role}
use Rattle.rules.specs.declared.Role.TheVariants.{ToneRole, ShapeRole, StrokeRole, NoRole}
use Rattle.rules.specs.declared.ToneKey.{ToneKey}
use Rattle.rules.specs.declared.ToneKey.TheVariants.{SetTone, ClearTone}
use Rattle.rules.specs.declared.ShapeKey.{ShapeKey}
use Rattle.rules.specs.declared.ShapeKey.TheVariants.{CircumflexOn, Circumflex, Breve, Horn, HornBreve}
use Rattle.rules.specs.declared.Touched.{Touched}
use Rattle.rules.specs.declared.Touched.TheVariants.{NoLetter, OneLetter, TwoLetters}
use Rattle.rules.specs.declared.Act.{Act}
use Rattle.rules.specs.declared.Act.TheVariants.{Tone, Shape, Stroke, Clear}

-- 6.1 A capital key has the role of its small letter. Appended, it is a plain letter in its own case.
abbrev pub is_capital : ℕ → Bool
is_capital k = leb (code "A") k && leb k (code "Z")

abbrev pub lower_if : Bool → ℕ → ℕ
lower_if true k = k + 32
lower_if false k = k

abbrev pub lower : ℕ → ℕ
lower k = lower_if (is_capital k) k

abbrev pub letter_of_key : ℕ → Letter
letter_of_key k = record { base = lower k; shape = plain; capital = is_capital k }

-- 6.2 The keys are the letters A to Z and a to z, and in VNI the digits 0 to 9 too.
abbrev pub is_small : ℕ → Bool
is_small b = leb (code "a") b && leb b (code "z")

abbrev pub is_digit : ℕ → Bool
is_digit b = leb (code "0") b && leb b (code "9")

abbrev pub is_key : ℕ → ℕ → Bool
is_key mode k = is_small k || (is_capital k || (eqb mode vni && is_digit k))

-- 6.3 In each mode a key has the role that the table gives it, and other keys have none.
abbrev pub role_in : List (ℕ × Role) → ℕ → Role
role_in [] b = NoRole
role_in (x ∷ xs) b = elim (eqb b x.0) [ true ↦ x.1 | false ↦ role_in xs b ]

abbrev pub telex_roles : List (ℕ × Role)
telex_roles =
    (code "s", ToneRole (SetTone acute)) ∷ (code "f", ToneRole (SetTone grave)) ∷ (code "r", ToneRole (SetTone hook)) ∷
    (code "x", ToneRole (SetTone tilde)) ∷ (code "j", ToneRole (SetTone dot)) ∷
    (code "z", ToneRole ClearTone) ∷
    (code "a", ShapeRole (CircumflexOn (code "a"))) ∷ (code "e", ShapeRole (CircumflexOn (code "e"))) ∷ (code "o", ShapeRole (CircumflexOn (code "o"))) ∷
    (code "w", ShapeRole HornBreve) ∷
    (code "d", StrokeRole) ∷ []

abbrev pub vni_roles : List (ℕ × Role)
vni_roles =
    (code "1", ToneRole (SetTone acute)) ∷ (code "2", ToneRole (SetTone grave)) ∷ (code "3", ToneRole (SetTone hook)) ∷
    (code "4", ToneRole (SetTone tilde)) ∷ (code "5", ToneRole (SetTone dot)) ∷
    (code "0", ToneRole ClearTone) ∷
    (code "6", ShapeRole Circumflex) ∷
    (code "7", ShapeRole Horn) ∷ (code "8", ShapeRole Breve) ∷
    (code "9", StrokeRole) ∷ []

abbrev pub role : ℕ → ℕ → Role
role mode k = elim (eqb mode telex) [ true ↦ role_in telex_roles (lower k) | false ↦ elim (eqb mode vni) [ true ↦ role_in vni_roles (lower k) | false ↦ NoRole ] ]

-- 6.6 A letter that is put into another shape keeps its base and its case.
abbrev pub shaped : ℕ → Letter → Letter
shaped sh x = record { base = x.base; shape = sh; capital = x.capital }

-- 6.7 An appended key is one more letter at the end. Letters and shapes before it and the number of the tone stay as
-- they are, but in one case: an i, u, c, m, n, p or t, small or capital, that is appended to an open word huơ, khuơ
-- or thuơ puts the horn on the u too, and has shaped it.
abbrev pub awaits_second_horn : Letters → Bool
awaits_second_horn w = one_of w (words "huơ khuơ thuơ")

abbrev pub asks_second_horn : ℕ → Bool
asks_second_horn b = among b "iucmnpt"

abbrev pub takes_second_horn : State → Letter → Bool
takes_second_horn s k = not s.closed && (awaits_second_horn s.letters && asks_second_horn k.base)

abbrev pub horn_on_u : Letters → Letters
horn_on_u [] = []
horn_on_u (x ∷ xs) = elim (eqb x.base (code "u")) [ true ↦ shaped horn x ∷ xs | false ↦ x ∷ horn_on_u xs ]

abbrev pub horn_on_u_if : Bool → Letters → Letters
horn_on_u_if true w = horn_on_u w
horn_on_u_if false w = w

abbrev pub place_of_u : Letters → ℕ
place_of_u [] = 0
place_of_u (x ∷ xs) = elim (eqb x.base (code "u")) [ true ↦ 0 | false ↦ suc (place_of_u xs) ]

abbrev pub touched_if : Bool → Letters → Touched
touched_if true w = OneLetter (place_of_u w)
touched_if false w = NoLetter

abbrev pub append : State → Letter → State
append s k = record { letters = horn_on_u_if (takes_second_horn s k) s.letters ++ (k ∷ []); tone = s.tone; closed = s.closed }

abbrev pub is_added : State → Letter → Done
is_added s k = appended (touched_if (takes_second_horn s k) s.letters) (append s k)

-- 6.8 An undo takes off the tone or the shape that its key stands for. The key then becomes a plain letter at the
-- end, and the word is closed.
abbrev pub close : State → State
close s = record { letters = s.letters; tone = s.tone; closed = true }

abbrev pub with_letters : State → Letters → State
with_letters s w = record { letters = w; tone = s.tone; closed = s.closed }

abbrev pub with_tone : State → ℕ → State
with_tone s t = record { letters = s.letters; tone = t; closed = s.closed }

abbrev pub undo : State → Letter → State
undo s k = append (close s) k

-- 6.9 A tone key undoes where the word has its tone. Else, where the letters are admitted and its tone fits their
-- final, it sets the tone, in place of any other. Else it is appended.
abbrev pub undo_if : Bool → State → Done → Done
undo_if true s d = undone NoLetter s
undo_if false s d = d

abbrev pub act_if : Bool → Act → State → Done → Done
act_if true a s d = acted a NoLetter s
act_if false a s d = d

abbrev pub tone_goes : ℕ → Letters → Bool
tone_goes t w = admitted w && fits (final w) t

abbrev pub tone_does : ToneKey → State → Letter → Done
tone_does (SetTone t) s k = undo_if (eqb s.tone t) (undo (with_tone s no_tone) k) (act_if (tone_goes t s.letters) (Tone t) (with_tone s t) (is_added s k))
-- 6.10 A clear key acts where the tone is not 0, and makes it 0. Where it is 0 the key is appended.
tone_does ClearTone s k = act_if (not (eqb s.tone no_tone)) Clear (with_tone s no_tone) (is_added s k)

-- 6.11 A shape key looks for its target among all letters of the word, by their bases and in any shape. It finds
-- none; or one that has the shape, with the letters once it is off; or another, with the letters once it is on, in
-- place of an older shape. Of a target it says which letters it is.
pub data Found : Type 0 where
  nowhere : Found
  already : Touched → Letters → Found
  fresh : Touched → Letters → Found

abbrev pub one_further : Touched → Touched
one_further NoLetter = NoLetter
one_further (OneLetter i) = OneLetter (suc i)
one_further (TwoLetters i) = TwoLetters (suc i)

abbrev pub behind : Letter → Found → Found
behind x nowhere = nowhere
behind x (already g w) = already (one_further g) (x ∷ w)
behind x (fresh g w) = fresh (one_further g) (x ∷ w)

abbrev pub or_else : Found → Found → Found
or_else nowhere f = f
or_else (already g w) f = already g w
or_else (fresh g w) f = fresh g w

abbrev pub if_so : Bool → Found → Found
if_so true f = f
if_so false f = nowhere

abbrev pub target : Bool → Touched → Letters → Letters → Found
target true g off on = already g off
target false g off on = fresh g on

abbrev pub here : ℕ → Letter → Letters → Found
here sh x xs = target (eqb x.shape sh) (OneLetter 0) (shaped plain x ∷ xs) (shaped sh x ∷ xs)

-- 6.12 A circumflex key aims at the last letter that it is for: in Telex the key's own letter, in VNI an a, e or o.
abbrev pub last : (ℕ → Bool) → ℕ → Letters → Found
last wanted sh [] = nowhere
last wanted sh (x ∷ xs) = or_else (behind x (last wanted sh xs)) (if_so (wanted x.base) (here sh x xs))

abbrev pub own : ℕ → ℕ → Bool
own b x = among x "aeo" && eqb x b

abbrev pub circumflex_on : ℕ → Letters → Found
circumflex_on b w = last (own b) circumflex w

abbrev pub is_aeo : ℕ → Bool
is_aeo x = among x "aeo"

abbrev pub circumflexed : Letters → Found
circumflexed w = last is_aeo circumflex w

-- 6.13 A breve key aims at the last a.
abbrev pub is_a : ℕ → Bool
is_a x = among x "a"

abbrev pub breved : Letters → Found
breved w = last is_a breve w

-- 6.14 Where the word is h, kh or th, a plain u and an o in any shape, and no more, a horn key aims at this o alone.
abbrev pub is_o : ℕ → Bool
is_o x = among x "o"

abbrev pub horns_o_alone : Letters → Bool
horns_o_alone w = one_of w (words "huo khuo thuo huô khuô thuô huơ khuơ thuơ")

abbrev pub o_alone : Letters → Found
o_alone w = if_so (horns_o_alone w) (last is_o horn w)

-- 6.15 Else it aims at a pair, the first u with an o directly after it and no q directly before it; the horn goes on
-- both.
abbrev pub is_q : Letter → Bool
is_q x = eqb x.base (code "q")

abbrev pub is_pair : Bool → ℕ → ℕ → Bool
is_pair after_q first second = eqb first (code "u") && (eqb second (code "o") && not after_q)

abbrev pub pair_here : Bool → Letter → Letters → Found
pair_here after_q x [] = nowhere
pair_here after_q x (z ∷ zs) =
    if_so (is_pair after_q x.base z.base)
    (target (eqb x.shape horn && eqb z.shape horn) (TwoLetters 0) (shaped plain x ∷ shaped plain z ∷ zs) (shaped horn x ∷ shaped horn z ∷ zs))

abbrev pub pair : Bool → Letters → Found
pair after_q [] = nowhere
pair after_q (x ∷ xs) = or_else (pair_here after_q x xs) (behind x (pair (is_q x) xs))

-- 6.16 Without such a pair it aims at the first letter that is an o or a u and has no q directly before it.
abbrev pub is_single : Bool → ℕ → Bool
is_single after_q b = among b "ou" && not after_q

abbrev pub single : Bool → Letters → Found
single after_q [] = nowhere
single after_q (x ∷ xs) = or_else (if_so (is_single after_q x.base) (here horn x xs)) (behind x (single (is_q x) xs))

abbrev pub horned : Letters → Found
horned w = or_else (o_alone w) (or_else (pair false w) (single false w))

-- 6.17 A shape key without a target is appended. One whose target has the shape undoes it; of a pair both letters
-- must have it, and both lose it. Else it acts where all letters of the word, with the new shape on the whole target,
-- are admitted. Where they are not it is appended.
pub data Edit : Type 0 where
  nothing : Edit
  off : Touched → Letters → Edit
  change : Act → Touched → Letters → Edit

abbrev pub only_if : Bool → Edit → Edit
only_if true e = e
only_if false e = nothing

abbrev pub asked : ℕ → Found → Edit
asked sh nowhere = nothing
asked sh (already g w) = off g w
asked sh (fresh g w) = only_if (admitted w) (change (Shape sh) g w)

-- 6.18 Telex w does what the horn rule says, undo or act; where that would append it, what the breve rule says of the
-- same letters; where that would too, it is appended.
abbrev pub first : Edit → Edit → Edit
first nothing e = e
first (off g w) e = off g w
first (change a g w) e = change a g w

abbrev pub shape_edit : ShapeKey → Letters → Edit
shape_edit (CircumflexOn b) w = asked circumflex (circumflex_on b w)
shape_edit Circumflex w = asked circumflex (circumflexed w)
shape_edit Breve w = asked breve (breved w)
shape_edit Horn w = asked horn (horned w)
shape_edit HornBreve w = first (asked horn (horned w)) (asked breve (breved w))

-- 6.19 A stroke key undoes where the first letter is đ, whatever follows it. Where it is d, the key puts the stroke
-- on it if that is the only letter or the letters are admitted. Else it is appended.
abbrev pub stroke_edit : Letters → Edit
stroke_edit [] = nothing
stroke_edit (x ∷ xs) =
    first (only_if (is x (named (code "đ"))) (off (OneLetter 0) (shaped plain x ∷ xs)))
    (only_if (is x (named (code "d")) && (is_nil xs || admitted (x ∷ xs))) (change Stroke (OneLetter 0) (shaped stroke x ∷ xs)))

-- 6.20 A shape or stroke key that takes a mark off is an undo, one that puts a mark on acts, and one that does
-- neither is appended.
abbrev pub edit_does : Edit → State → Letter → Done
edit_does nothing s k = is_added s k
edit_does (off g w) s k = undone g (undo (with_letters s w) k)
edit_does (change a g w) s k = acted a g (with_letters s w)

-- 6.5 In an open word a key does what its role says; without a role it is appended.
abbrev pub role_does : Role → State → Letter → Done
role_does (ToneRole t) s k = tone_does t s k
role_does (ShapeRole h) s k = edit_does (shape_edit h s.letters) s k
role_does StrokeRole s k = edit_does (stroke_edit s.letters) s k
role_does NoRole s k = is_added s k

-- 6.4 A key typed into a closed word is appended, whatever its role.
abbrev pub unless_closed : Bool → Role → State → Letter → Done
unless_closed true r s k = is_added s k
unless_closed false r s k = role_does r s k

abbrev pub key_does : Typed → ℕ → Done
key_does z k = unless_closed z.state.closed (role z.mode k) z.state (letter_of_key k)

-- 6.21 Keys of a list are typed one after the other, each into the word that those before it made.
abbrev pub type : Typed → ℕ → Typed
type z k = counted z k (key_does z k)

abbrev pub type_list : Typed → List ℕ → Typed
type_list z [] = z
type_list z (k ∷ ks) = type_list (type z k) ks
