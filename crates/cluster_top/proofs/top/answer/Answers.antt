use Rattle.std.proofs.Common.{map, string_bytes, subst}
use Rattle.command_words.specs.Commands.{Spells}
use Rattle.command_words.specs.declared.command.Command.TheVariants.{Gen, Play, Run}
use Rattle.cluster_top.proofs.Tasks.{refusal-came, refusal-made, text-came, text-made}
use Rattle.cluster_top.proofs.top.answer.Goals as goal

pub returns-in-Some-Play-clause-text : goal.returns-in-Some-Play-clause-text
returns-in-Some-Play-clause-text g c =
    let words = map string_bytes c.args.words.now in
    let said = c.in-Some-Play in
    text-came g.S.Source.left g.S.Source.given g.S.Source.ended g.S.Source.faults words c.args.source.now c.played.new.source (Play said.brief)
    (subst (Spells words) said.field-0-is said.ensures.spelled) c.played.result c.played.ensures.report

pub returns-in-Some-Gen-clause-text : goal.returns-in-Some-Gen-clause-text
returns-in-Some-Gen-clause-text g c =
    let words = map string_bytes c.args.words.now in
    let said = c.in-Some-Gen in
    text-came g.S.Source.left g.S.Source.given g.S.Source.ended g.S.Source.faults words c.args.source.now c.args.source.now (Gen said.seed said.size)
    (subst (Spells words) said.field-0-is said.ensures.spelled) c.generated.result (text-made c.args.source.now said.seed said.size c.generated.result c.generated.ensures.text)

pub returns-in-Some-Gen-clause-refusal : goal.returns-in-Some-Gen-clause-refusal
returns-in-Some-Gen-clause-refusal g c =
    let words = map string_bytes c.args.words.now in
    let said = c.in-Some-Gen in
    refusal-came g.S.Source.left g.S.Source.given g.S.Source.ended g.S.Source.faults words c.args.source.now c.args.source.now (Gen said.seed said.size)
    (subst (Spells words) said.field-0-is said.ensures.spelled) c.generated.result (refusal-made c.args.source.now said.seed said.size c.generated.result c.generated.ensures.refusal)

pub returns-in-Some-Run-eq0-default-clause-text : goal.returns-in-Some-Run-eq0-default-clause-text
returns-in-Some-Run-eq0-default-clause-text g c =
    let words = map string_bytes c.args.words.now in
    let said = c.in-Some-Run-eq0-default in
    text-came g.S.Source.left g.S.Source.given g.S.Source.ended g.S.Source.faults words c.args.source.now c.ran.new.source (Run said.field-0-0 said.brief)
    (subst (Spells words) said.field-0-is said.ensures.spelled) c.ran.result c.ran.ensures.report

pub returns-in-Some-Run-eq0-default-clause-refusal : goal.returns-in-Some-Run-eq0-default-clause-refusal
returns-in-Some-Run-eq0-default-clause-refusal g c =
    let words = map string_bytes c.args.words.now in
    let said = c.in-Some-Run-eq0-default in
    refusal-came g.S.Source.left g.S.Source.given g.S.Source.ended g.S.Source.faults words c.args.source.now c.ran.new.source (Run said.field-0-0 said.brief)
    (subst (Spells words) said.field-0-is said.ensures.spelled) c.ran.result c.ran.ensures.refusal
