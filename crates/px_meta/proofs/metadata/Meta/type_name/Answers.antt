use Rattle.std.proofs.Common.{inl, inr, subst}
use Rattle.std.specs.Prelude.{MatchOption}
use Rattle.px_meta.specs.Rows.{type_defs, type_refs}
use Rattle.px_meta.specs.Tokens.{IsTypeName, NamesType}
use Rattle.px_meta.proofs.Naming.{def_named, ref_named, type_named}
use Rattle.px_meta.proofs.metadata.Meta.type_name.Goals as goal

pub returns-in-Some : goal.returns-in-Some
returns-in-Some c =
    let v = c.self.inside.tables in
    let at = c.args.token in
    let is = c.in-Some.ensures in
    subst (λ v. MatchOption c.names_of.result (NamesType v at → ⊥) (λ names. IsTypeName v at names.0.now names.1.now)) c.self.view_is
    (type_named (λ names. names.0.now) (λ names. names.1.now) v type_defs at c.in-Some.row c.names_of.result is.0 is.1 c.names_of.ensures (def_named v at c.in-Some.row c.self.invariant.faultless is.0 is.1) (inl is.1))

pub returns : goal.returns
returns c =
    let v = c.self.inside.tables in
    let at = c.args.token in
    let is = c.in_ok-row.ensures in
    subst (λ v. MatchOption c.names_of-2.result (NamesType v at → ⊥) (λ names. IsTypeName v at names.0.now names.1.now)) c.self.view_is
    (type_named (λ names. names.0.now) (λ names. names.1.now) v type_refs at c.in_ok-row.row c.names_of-2.result is.0 is.1 c.names_of-2.ensures (ref_named v at c.in_ok-row.row c.self.invariant.faultless is.0 is.1) (inr is.1))
