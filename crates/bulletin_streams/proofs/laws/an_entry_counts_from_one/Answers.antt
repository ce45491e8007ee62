use Rattle.delta_graph.proofs.GatheredLemmas.{own-stand}
use Rattle.bulletin_streams.proofs.laws.an_entry_counts_from_one.Goals as goal

pub returns : goal.returns
returns c = record {
  sent = c.as_slice-sent.ensures.stands;
  created = c.as_slice-created.ensures.stands;
  released = own-stand c.args.entry.now.actor c.args.entry.now.released c.as_slice-released.ensures.stands;
}
