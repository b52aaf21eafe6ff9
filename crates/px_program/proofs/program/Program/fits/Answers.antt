use Rattle.std.proofs.Common.{◌≡◌, inl, inr, Some, None, true, false, rules}
use Rattle.px_program.specs.Formed.{element_of}
use Rattle.px_program.proofs.Fitting.{element_step, fits_back, fits_ends, fits_inner}
use Rattle.px_program.proofs.program.Program.fits.Goals as goal

pub loop-to-smaller : goal.loop-to-smaller
loop-to-smaller c =
    let goes : element_of c.args.self.now.types c.loop-to.from ≡ Some c.in-Some-Some.inner = cc in
    element_step c.args.self.now.types c.requires.types c.loop-to.from c.in-Some-Some.inner goes

pub loop-to-preserved : goal.loop-to-preserved
loop-to-preserved c =
    let types = c.args.self.now.types in
    let from : element_of types c.loop-to.from ≡ Some c.in-Some-Some.inner = cc in
    let to : element_of types c.loop-to.to ≡ Some c.in-Some-Some.wanted = cc in
    let no : c.is_kind_of.result ≡ false = search rules in
    record {
      on = λ fits.
          fits_inner types c.loop-to.from c.loop-to.to c.in-Some-Some.inner c.in-Some-Some.wanted c.loop-to-test.true
          (λ kind. let yes : c.is_kind_of.result ≡ true = c.is_kind_of.ensures.1 kind in absurd (cc)) from to (c.loop-to.invariant.on fits);
      back = λ fits. c.loop-to.invariant.back (fits_back types c.loop-to.from c.loop-to.to c.in-Some-Some.inner c.in-Some-Some.wanted from to fits);
    }

pub returns-in_default : goal.returns-in_default
returns-in_default c =
    let types = c.args.self.now.types in
    let ends : element_of types c.loop-to.to ≡ None = cc in
    let no : c.is_kind_of.result ≡ false = search rules in (
      λ wrong. absurd (cc),
      λ fits. absurd (fits_ends types c.loop-to.from c.loop-to.to c.loop-to-test.true
          (λ kind. let yes : c.is_kind_of.result ≡ true = c.is_kind_of.ensures.1 kind in absurd (cc)) (inr ends) (c.loop-to.invariant.on fits)),
    )

pub returns-in_default-2 : goal.returns-in_default-2
returns-in_default-2 c =
    let types = c.args.self.now.types in
    let ends : element_of types c.loop-to.from ≡ None = cc in
    let no : c.is_kind_of.result ≡ false = search rules in (
      λ wrong. absurd (cc),
      λ fits. absurd (fits_ends types c.loop-to.from c.loop-to.to c.loop-to-test.true
          (λ kind. let yes : c.is_kind_of.result ≡ true = c.is_kind_of.ensures.1 kind in absurd (cc)) (inl ends) (c.loop-to.invariant.on fits)),
    )
