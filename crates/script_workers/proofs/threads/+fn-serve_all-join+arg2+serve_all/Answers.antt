use mathlib.Core.List.{[], ◌∷◌}
use Rattle.std.proofs.Common.{◌-◌, ap, arith}
use denote.Ref.{ShrRef}
use denote.Param.{param}
use denote.Struct.Field.{u32-field}
use denote.Param.Send.{IsSend, IsSync, sendable, shr_send}
use Rattle.std.proofs.Crossing.{crosses, send}
use Rattle.std.specs.contracts.alloc.Global as Heap
use Rattle.behaviour_lang.specs.contracts.code.Code as Code
use Rattle.turn_lock.proofs.Crossing.{captures_send}
use Rattle.script_workers.specs.contracts.threads.Crew as Crew
use Rattle.cluster_calls.specs.Calling.{Knows}
use Rattle.script_workers.proofs.Leads.{led-one_more}
use Rattle.collector.proofs.Crossing.{collector_send}
use Rattle.script_workers.proofs.Crossing.{lock, moved, pass, shared}
use Rattle.script_workers.proofs.threads.+fn-serve_all-join+arg2+serve_all.Goals as goal

code_sync : IsSync Code.the_row
code_sync = search (crosses, sendable) depth 60 fits 100000

crew_send : IsSend Crew.the_row
crew_send = search sendable depth 20

u32_send : IsSend u32-field.row
u32_send = search sendable depth 20

pub join-led-requires-send-F : goal.join-led-requires-send-F
join-led-requires-send-F g t c κs h =
    captures_send 1 _ _ (ShrRef _ _ (param 1 g.row.R) ∷ Heap.the_row ∷ ShrRef _ _ lock ∷ pass ∷ ShrRef _ _ Code.the_row ∷ ShrRef _ _ (param 0 g.row.G) ∷ Crew.the_row ∷ u32-field.row ∷ [])
    (shr_send _ _ _ c.requires.shared.0, (send, (shr_send _ _ _ shared, (moved, (shr_send _ _ _ code_sync, (shr_send _ _ _ c.requires.shared.1, (crew_send, (u32_send, tt))))))))

pub join-led-requires-send-A : goal.join-led-requires-send-A
join-led-requires-send-A g t c κs h = search (crosses, sendable, moved, collector_send) depth 40

pub returns : goal.returns
returns g t c =
    let lead = c.requires.lead in
    let new = c.split-pass.ensures.new in
    led-one_more c.args.lock.now c.args.crew (c.args.count - 1) c.args.first _ _ _ _ _ _ _ c.split-pass.ensures.pass lead.none_later
    c.join-led.ensures.first _ (ap (λ (p : Knows). p.number) new, ap (λ (p : Knows). p.origin) new) c.join-led.ensures.second _
    c.join.ensures.pass lead.some c.keep.ensures c.args.count (omega (arith, c.if-count-eq0.false))
