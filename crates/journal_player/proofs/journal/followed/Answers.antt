use Rattle.std.proofs.Common.{◌≡◌, ◌≤◌, ◌-◌, arith, drop, length}
use Rattle.journal_model.specs.Lines.{lines_of}
use Rattle.journal_player.proofs.Journals.{begun-of, journal-faulty, journal-told, lines-left}
use Rattle.journal_player.proofs.journal.followed.Goals as goal

pub returns-in-Ok-clause-told : goal.returns-in-Ok-clause-told
returns-in-Ok-clause-told c =
    let text = c.args.text.items in
    let short : length text ≤ 16777216 = grind arith in
    let long : c.len-2.result ≡ length text = grind arith in
    let from = c.in_ok-player.player in
    let begun = begun-of c.in-Some.first.now from c.in-Some-read_header.nodes c.in-Some-read_header.version c.in-Some-read_header.ensures.header c.in_ok-player.ensures.nodes c.in_ok-player.ensures.version c.in_ok-player.ensures.replay in
    journal-told text c.in-Some.first.now (lines_of (drop (c.len-2.result - length c.in-Some.rest.now) text)) from c.follow_all.new.player short (lines-left text c.as_slice.result.now c.in-Some.first.now c.in-Some.rest.now c.len-2.result long c.as_slice.ensures.value c.in-Some.ensures.line c.in-Some.ensures.rest) begun c.follow_all.ensures.cluster c.in-Ok.ensures.ok

pub returns-in-Err-clause-fault : goal.returns-in-Err-clause-fault
returns-in-Err-clause-fault c =
    let text = c.args.text.items in
    let short : length text ≤ 16777216 = grind arith in
    let long : c.len-2.result ≡ length text = grind arith in
    let from = c.in_ok-player.player in
    let begun = begun-of c.in-Some.first.now from c.in-Some-read_header.nodes c.in-Some-read_header.version c.in-Some-read_header.ensures.header c.in_ok-player.ensures.nodes c.in_ok-player.ensures.version c.in_ok-player.ensures.replay in
    journal-faulty text c.in-Some.first.now (lines_of (drop (c.len-2.result - length c.in-Some.rest.now) text)) from c.in-Err.fault short (lines-left text c.as_slice.result.now c.in-Some.first.now c.in-Some.rest.now c.len-2.result long c.as_slice.ensures.value c.in-Some.ensures.line c.in-Some.ensures.rest) begun c.in-Err.ensures.fault
