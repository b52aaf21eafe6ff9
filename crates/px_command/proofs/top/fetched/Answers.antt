use Rattle.std.proofs.Common.{inr, refl}
use Rattle.px_command.proofs.Telling.{is_absent, is_too_long}
use Rattle.px_command.proofs.top.fetched.Goals as goal

pub returns-in-Ok-Absent-clause-says : goal.returns-in-Ok-Absent-clause-says
returns-in-Ok-Absent-clause-says g c = λ words asked.
    let told = rw c.in-Ok-Absent.field-0-is at c.in-Ok-Absent.ensures.told in
    let missed = rw c.in-Ok-Absent.field-0-is at c.in-Ok-Absent.ensures.missed in
    record { asks = record { file = _; target = _; text = _; asked = asked }; absent = is_absent (g.S.Shelf.files c.args.shelf.now) c.args.asked.now.file.now _ told; rose = missed tt; text_is = refl }

pub returns-in-Ok-TooLong-clause-says : goal.returns-in-Ok-TooLong-clause-says
returns-in-Ok-TooLong-clause-says g c = λ words asked.
    let told = rw c.in-Ok-TooLong.field-0-is at c.in-Ok-TooLong.ensures.told in
    let missed = rw c.in-Ok-TooLong.field-0-is at c.in-Ok-TooLong.ensures.missed in
    inr (record { asks = record { file = _; target = _; text = _; asked = asked }; too_long = is_too_long (g.S.Shelf.files c.args.shelf.now) c.args.asked.now.file.now told; rose = missed tt; text_is = refl })

pub returns-in-Err-Failed-clause-says : goal.returns-in-Err-Failed-clause-says
returns-in-Err-Failed-clause-says g c = λ words asked.
    record { asks = record { file = _; target = _; text = _; asked = asked }; rose = c.in-Err-Failed.ensures.failed c.in-Err-Failed.field-0-is; text_is = refl }
