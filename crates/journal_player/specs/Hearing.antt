-- What a line asks for.
use Rattle.journal_model.specs.declared.lines.Line.{Line}
use Rattle.journal_model.specs.declared.lines.Line.TheVariants as said
use Rattle.true_config.specs.Applying.{CarriesFew}

-- if the line is a send, its message carries at most 16 references
abbrev pub LineCarriesFew : Line → Type 0
LineCarriesFew (said.Event e) = CarriesFew e
LineCarriesFew _ = Unit {0}
