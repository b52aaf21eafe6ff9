use Rattle.std.proofs.Common.{length}
use Rattle.px_tests.proofs.domains.+put_arg_texts.Given as goal

abbrev pub decreases-put_arg_texts : goal.decreases-put_arg_texts
decreases-put_arg_texts g l = length l.parts.now
