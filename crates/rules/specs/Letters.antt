-- 5 Letters, shapes, tones and modes (docs/RULES.md): each by its name, and quoted words read as letters.
use Rattle.std.specs.Prelude.{Bool, true, false, ◌&&◌, ◌||◌, List, [], ◌∷◌, map, ℕ, eqb}
use Prim.Native.Char.{code}
use Prim.Native.String.{String}
use Prim.Native.String as Quoted

-- 5.1 A letter is a base, a shape and a case. The base is the byte of the small letter or, in VNI, of a digit.
pub record Letter : Type 0 where
  pub base : ℕ
  pub shape : ℕ
  pub capital : Bool

abbrev pub Letters : Type 0
Letters = List Letter

-- 5.2 Shapes: 0 plain, 1 circumflex, 2 breve, 3 horn, 4 stroke.
abbrev pub plain : ℕ
plain = 0

abbrev pub circumflex : ℕ
circumflex = 1

abbrev pub breve : ℕ
breve = 2

abbrev pub horn : ℕ
horn = 3

abbrev pub stroke : ℕ
stroke = 4

-- 5.3 Tones: 0 no tone, 1 acute, 2 grave, 3 hook, 4 tilde, 5 dot.
abbrev pub no_tone : ℕ
no_tone = 0

abbrev pub acute : ℕ
acute = 1

abbrev pub grave : ℕ
grave = 2

abbrev pub hook : ℕ
hook = 3

abbrev pub tilde : ℕ
tilde = 4

abbrev pub dot : ℕ
dot = 5

-- 5.4 Modes: 0 Telex, 1 VNI.
abbrev pub telex : ℕ
telex = 0

abbrev pub vni : ℕ
vni = 1

-- 5.5 A quoted text stands for the numbers of its characters; those of ASCII are bases, keys and bytes.
abbrev pub characters : String → List ℕ
characters Quoted.[] = []
characters (Quoted.◌∷◌ c cs) = code c ∷ characters cs

-- 5.6 A number is among others when it is one of them; the others are a list or a quoted text.
abbrev pub elem : ℕ → List ℕ → Bool
elem b [] = false
elem b (x ∷ []) = eqb b x
elem b (x ∷ y ∷ ys) = eqb b x || elem b (y ∷ ys)

abbrev pub among : ℕ → String → Bool
among b cs = elem b (characters cs)

-- 5.7 A small letter is a base in a shape, and no capital.
abbrev pub small : ℕ → ℕ → Letter
small b sh = record { base = b; shape = sh; capital = false }

-- 5.8 The names ă, â, ê, ô, ơ, ư and đ are letters with a shape; every other character names a plain letter.
abbrev shaped_names : List (ℕ × Letter)
shaped_names =
    (code "ă", small (code "a") breve) ∷ (code "â", small (code "a") circumflex) ∷ (code "ê", small (code "e") circumflex) ∷
    (code "ô", small (code "o") circumflex) ∷ (code "ơ", small (code "o") horn) ∷ (code "ư", small (code "u") horn) ∷ (code "đ", small (code "d") stroke) ∷ []

abbrev named_in : List (ℕ × Letter) → ℕ → Letter
named_in [] c = small c plain
named_in (x ∷ xs) c = elim (eqb c x.0) [ true ↦ x.1 | false ↦ named_in xs c ]

abbrev pub named : ℕ → Letter
named c = named_in shaped_names c

-- 5.9 A quoted word stands for its letters, and quoted words with a space between each two for their list.
abbrev pub word : String → Letters
word cs = map named (characters cs)

abbrev onto : Letter → List Letters → List Letters
onto x [] = (x ∷ []) ∷ []
onto x (w ∷ ws) = (x ∷ w) ∷ ws

abbrev words_of : List ℕ → List Letters
words_of [] = []
words_of (c ∷ cs) = elim (eqb c (code " ")) [ true ↦ [] ∷ words_of cs | false ↦ onto (named c) (words_of cs) ]

abbrev pub words : String → List Letters
words cs = words_of (characters cs)

-- 5.10 Two letters are the same when their bases and their shapes are; case makes no difference. Two words are the
-- same when all their letters are.
abbrev pub is : Letter → Letter → Bool
is x z = eqb x.base z.base && eqb x.shape z.shape

abbrev pub same : Letters → Letters → Bool
same [] [] = true
same [] (z ∷ zs) = false
same (x ∷ xs) [] = false
same (x ∷ xs) (z ∷ zs) = elim (is x z) [ true ↦ same xs zs | false ↦ false ]

-- 5.11 A word is one of a list when it is the same as some word of the list.
abbrev pub some_word : (Letters → Bool) → List Letters → Bool
some_word f [] = false
some_word f (z ∷ zs) = elim (f z) [ true ↦ true | false ↦ some_word f zs ]

abbrev pub one_of : Letters → List Letters → Bool
one_of w zs = some_word (same w) zs

-- 5.12 A word may be empty. Its first base is that of its first letter, and 0 where it is empty.
abbrev pub is_nil : Letters → Bool
is_nil [] = true
is_nil (x ∷ xs) = false

abbrev pub first_base : Letters → ℕ
first_base [] = 0
first_base (x ∷ xs) = x.base

-- 5.13 Every letter can be plain. The circumflex goes on a, e and o, the breve on a, the horn on o and u, the stroke
-- on d, and no shape goes on anything else.
abbrev pub carries : ℕ → ℕ → Bool
carries sh b =
    eqb sh plain || ((eqb sh circumflex && among b "aeo") || ((eqb sh breve && among b "a") || ((eqb sh horn && among b "ou") || (eqb sh stroke && among b "d"))))
