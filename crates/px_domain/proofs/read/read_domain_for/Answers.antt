use Rattle.px_domain.proofs.ReadBack.{back_from_gives, params_from_gives}
use Rattle.px_domain.proofs.read.read_domain_for.Goals as goal

pub returns-clause-params : goal.returns-clause-params
returns-clause-params c = params_from_gives c.read_parts.result c.args.params.now _ c.requires.integers c.read_parts.ensures

pub returns-clause-read_back : goal.returns-clause-read_back
returns-clause-read_back c = back_from_gives c.read_parts.result c.args.params.now _ c.requires.integers c.read_parts.ensures
