-- `files::headers::check_filling` meets its contract: the field from the last one's end to the file's end is what fills.
use mathlib.Core.Path.{sym, ◌∙◌}
use Rattle.layout.specs.Layout.{filling}
use Rattle.files.proofs.Frame.{filling-stops, filling-passes}
use Rattle.files.proofs.headers.check_filling.Goals as goal

pub returns-then-field_from-ne0 : goal.returns-then-field_from-ne0
unfolding filling
returns-then-field_from-ne0 c = sym (filling-stops _ _ (λ none. c.if-field_from-ne0.true (c.field_from.ensures ∙ none)))

pub returns : goal.returns
unfolding filling
returns c = sym (filling-passes _ _ (sym c.field_from.ensures ∙ c.if-field_from-ne0.false))
