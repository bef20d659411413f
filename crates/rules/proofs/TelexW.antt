-- Telex w tries the horn before the breve: a record that has both, which no typing reaches, shows the order.
use mathlib.Core.Path.{◌≡◌, refl}
use Rattle.rules.specs.Letters.{word}
use Rattle.rules.specs.KeyRoles.{off, shape_edit}
use Rattle.rules.specs.declared.Touched.TheVariants.{OneLetter}
use Rattle.rules.specs.declared.ShapeKey.TheVariants.{HornBreve}

pub horn_before_breve : shape_edit HornBreve (word "ưă") ≡ off (OneLetter 0) (word "uă")
horn_before_breve = refl
