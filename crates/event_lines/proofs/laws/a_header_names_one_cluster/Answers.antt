use Rattle.event_lines.proofs.ClusterHeaders.{header_of-cluster, header_of-header}
use Rattle.event_lines.proofs.laws.a_header_names_one_cluster.Goals as goal

pub returns-clause-found : goal.returns-clause-found
returns-clause-found c = header_of-header

pub returns-clause-only : goal.returns-clause-only
returns-clause-only c = header_of-cluster
