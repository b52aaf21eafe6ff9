use Rattle.std.proofs.Common.{take}
use Rattle.px_tree.specs.Tree.{HasPath, paths_of}
use Rattle.px_session.proofs.explore.has_path.Given as goal

-- none so far has it
abbrev pub invariant-loop-record : goal.invariant-loop-record
invariant-loop-record l = HasPath (paths_of (take l.record-index l.records)) l.path → ⊥
