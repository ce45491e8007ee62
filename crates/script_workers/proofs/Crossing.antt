-- A pass of a cluster's lock may go to another thread, and the lock be shared.
use denote.RattleType.{RattleType}
use denote.Param.Send.{IsSend, IsSync, sendable}
use Rattle.std.proofs.Crossing.{crosses, frees}
use Rattle.std.proofs.MapsCrossing.{crosses as maps}
use Rattle.std.proofs.MapsCrossingOver.{crosses as sets}
use Rattle.turn_lock.specs.contracts.lock.TurnLock as TurnLock
use Rattle.turn_lock.specs.contracts.pass.Pass as Pass
use Rattle.turn_lock.proofs.Crossing.{pass_send, lock_sync}
use Rattle.crgc_ids.specs.contracts.refs.RefList as RefList
use Rattle.history_model.specs.contracts.history.History as History
use Rattle.link_table.specs.contracts.table.LinkTable as LinkTable
use Rattle.mailboxes.specs.contracts.mailboxes.Mailboxes as Mailboxes
use Rattle.traffic.specs.contracts.traffic.Traffic as Traffic
use Rattle.refob_counts.specs.contracts.RefCounts as RefCounts
use Rattle.entry_records.specs.contracts.actor_log.ActorLog as ActorLog
use Rattle.roster.specs.contracts.table.Roster as Roster
use Rattle.bulletin_streams.specs.contracts.streams.BulletinStreams as Streams
use Rattle.true_config.specs.contracts.world.World as World
use Rattle.script_actors.specs.contracts.actors.ScriptActors as Actors
use Rattle.script_progress.specs.contracts.progress.Progress as Progress
use Rattle.operation_model.specs.contracts.operations.Op as Op
use Rattle.operation_model.specs.contracts.replies.Reply as Reply
use Rattle.world_object.specs.contracts.cluster.Cluster as Cluster
use Rattle.world_object.specs.contracts.shared.Shared as Shared
use Rattle.world_object.specs.contracts.shared.SharedObject.TheImpl.{ghosts}

-- what a cluster is made of, part by part, since one search for all of it is too long
history_send : IsSend History.the_row
history_send = search (crosses, sendable) depth 60 fits 100000

refs_send : IsSend RefList.the_row
refs_send = search (crosses, sendable) depth 60 fits 100000

links_send : IsSend LinkTable.the_row
links_send = search (crosses, maps, sets, frees, sendable, refs_send) depth 60 fits 100000

mail_send : IsSend Mailboxes.the_row
mail_send = search (crosses, maps, sets, frees, sendable, refs_send) depth 60 fits 100000

traffic_send : IsSend Traffic.the_row
traffic_send = search (crosses, maps, sets, frees, sendable, links_send, mail_send) depth 60 fits 100000

counts_send : IsSend RefCounts.the_row
counts_send = search (crosses, maps, sets, frees, sendable) depth 60 fits 100000

log_send : IsSend ActorLog.the_row
log_send = search (crosses, sendable) depth 60 fits 100000

roster_send : IsSend Roster.the_row
roster_send = search (crosses, maps, sets, frees, sendable, counts_send, log_send) depth 60 fits 100000

streams_send : IsSend Streams.the_row
streams_send = search (crosses, sendable) depth 60 fits 100000

world_send : IsSend World.the_row
world_send = search (crosses, sendable, history_send, traffic_send, roster_send, streams_send) depth 60 fits 100000

actors_send : IsSend Actors.the_row
actors_send = search (crosses, sendable) depth 40

progress_send : IsSend Progress.the_row
progress_send = search (crosses, maps, sets, frees, sendable) depth 60 fits 100000

cluster_send : IsSend Cluster.the_row
cluster_send = search (crosses, sendable, world_send, actors_send, progress_send) depth 60 fits 100000

abbrev pub lock : RattleType
lock = TurnLock.the_row Shared.the_row Cluster.the_row Op.the_row Reply.the_row ghosts

abbrev pub pass : RattleType
pass = Pass.the_row Shared.the_row Cluster.the_row Op.the_row Reply.the_row ghosts

pub shared : IsSync lock
shared = search (sendable, lock_sync, cluster_send) depth 40

pub moved : IsSend pass
moved = search (sendable, pass_send, cluster_send) depth 40
