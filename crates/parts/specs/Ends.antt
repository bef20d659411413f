-- Where the parts of a word end, by document 01's definitions.
use Rattle.std.specs.Prelude.{◌+◌, length}
use Rattle.rules.specs.Letters.{Letters}
use Rattle.rules.specs.TakingApart.{initial, nucleus, final}
use Rattle.parts.specs.declared.Parts.{Parts}

abbrev pub parts_of : Letters → Parts
parts_of w =
    record {
      initial = length (initial w);
      nucleus = length (initial w) + length (nucleus w);
      end = length (initial w) + length (nucleus w) + length (final w);
    }
