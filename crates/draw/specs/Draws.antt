-- What a draw in code stands for.
use Rattle.answer.specs.Answers.{option_of}
use Rattle.laws.specs.Draw as laws
use Rattle.draw.specs.declared.draw.Draw as code

abbrev pub draw_of : code.Draw → laws.Draw
draw_of d = record { item = option_of d.item; start = d.start; end = d.end }
