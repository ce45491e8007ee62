use Rattle.cluster_calls.specs.Calling.{reply_in}
use Rattle.script_workers.proofs.Leads.{has-served}
use Rattle.script_workers.proofs.threads.serve.Goals as goal

pub returns : goal.returns
returns g c =
    let one = c.serve_one-collector in
    has-served c.args.lock.now c.args.pass one.new.pass c.ask-last.new.pass (reply_in c.ask-last.result) c.ask-last.ensures.asked
    c.args.crew c.args.number one.result one.ensures.same one.ensures.ended one.ensures.back
