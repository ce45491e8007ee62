use Rattle.std.proofs.Common.{◌∙◌, sym, inl, inr}
use Rattle.graph_wire.proofs.Room.{delta-ready, window-ready}
use Rattle.graph_wire.proofs.writing.write.Goals as goal

pub put_delta-requires : goal.put_delta-requires
put_delta-requires c =
    let t = c.in_ok-table.ensures in
    delta-ready c.args.b.now c.in-Delta.d c.deref-in-Delta.result.now c.len-wide.result c.in-Delta.is c.requires t.actors t.rises (c.deref-in-Delta.ensures.value ∙ t.value) (c.len-wide.ensures ∙ sym c.deref-in-Delta.ensures.len)

pub put_window-requires : goal.put_window-requires
put_window-requires c =
    let t = c.in_ok-table.ensures in
    window-ready c.args.b.now c.in-Window.w c.deref-in-Window.result.now c.len-wide.result (inl c.in-Window.is) c.requires t.actors t.rises (c.deref-in-Window.ensures.value ∙ t.value) (c.len-wide.ensures ∙ sym c.deref-in-Window.ensures.len)

pub put_window-requires-in-Final : goal.put_window-requires-in-Final
put_window-requires-in-Final c =
    let t = c.in_ok-table.ensures in
    window-ready c.args.b.now c.in-Final.w c.deref-in-Final.result.now c.len-wide.result (inr c.in-Final.is) c.requires t.actors t.rises (c.deref-in-Final.ensures.value ∙ t.value) (c.len-wide.ensures ∙ sym c.deref-in-Final.ensures.len)
