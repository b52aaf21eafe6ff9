use Rattle.std.proofs.Common.{◌∙◌, arith}
use Rattle.px_command_words.proofs.Forms.{asks_for, five_long, third_tells}
use Rattle.px_command_words.proofs.words.asked_by.Goals as goal

pub bounds-words-2 : goal.bounds-words-2
bounds-words-2 c = omega (arith, five_long c.args.words.now c.requires)

pub bounds-words-4 : goal.bounds-words-4
bounds-words-4 c = omega (arith, five_long c.args.words.now c.requires)

pub target_of-target-requires-clause-fits : goal.target_of-target-requires-clause-fits
target_of-target-requires-clause-fits c =
    third_tells c.args.words.now c.text.result.now c.text-2.result.now c.index-words-0.result c.index-words-2.result c.requires
    (c.text.ensures.value ∙ c.index-words-0.is) (c.text-2.ensures.value ∙ c.index-words-2.is)

pub returns-clause-asks : goal.returns-clause-asks
returns-clause-asks c =
    asks_for c.args.words.now c.text.result.now c.text-3.result.now c.text-2.result.now c.text-4.result.now c.target_of-target.result
    c.index-words-0.result c.index-words-1.result c.index-words-2.result c.index-words-4.result c.requires
    (c.text.ensures.value ∙ c.index-words-0.is) (c.text-3.ensures.value ∙ c.index-words-1.is) (c.text-2.ensures.value ∙ c.index-words-2.is)
    (c.text-4.ensures.value ∙ c.index-words-4.is) c.target_of-target.ensures.command c.target_of-target.ensures.word c.target_of-target.ensures.typed
