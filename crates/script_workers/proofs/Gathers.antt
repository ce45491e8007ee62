-- The collectors that came back: at the world's history, and by node.
use Rattle.std.proofs.Common.{◌≡◌, ◌<◌, ◌++◌, ℕ, true, false, List, [], ◌∷◌, length, slice_get, slice_index_or, arith, Some, sym, ◌∙◌, ap, subst, inl, inr}
use Rattle.std.specs.List.{AllByRecursion, remove}
use Rattle.std.proofs.lemmas.Bool.{false≢true}
use Rattle.crgc_ids.proofs.MembersLaws.{all-implied}
use Rattle.turn_lock.specs.History.{IsMadeOf, calls_of}
use Rattle.history_model.specs.declared.events.Event.{Event}
use Rattle.history_model.specs.Cluster.{Cluster}
use Rattle.history_model.specs.Compaction.{AreStopped}
use Rattle.history_model.specs.State.{is_up}
use Rattle.run_model.specs.Doing.{cluster_of}
use Rattle.operation_model.specs.Answers.{IsCourse}
use Rattle.operation_model.specs.Courses.{world}
use Rattle.operation_model.specs.Openings.{IsNew, Opening}
use Rattle.operation_model.specs.Turns.{Calls}
use Rattle.collector.specs.Collected.{Collected, IsCollectorAt, was_stopped}
use Rattle.collected_calls.specs.Collecting.{IsCollectorOf, WasToldDown}
use Rattle.shadow_graph.specs.Seen.{is_dropped}
use Rattle.node_collectors.proofs.StandLemmas.{last-too}
use Rattle.script_workers.specs.Returned.{AreBack, AreRowsAt, IsBack, StandsIfUp}

-- ---- at the world's history

module _
    (stands : (o : Opening) (h : Calls) (p : ℕ) (c : Collected) → IsNew o → IsCourse o h → IsCollectorOf (cluster_of o.script) (calls_of p h) c
    → AreStopped (is_dropped c.graph) (was_stopped c) → IsCollectorAt (cluster_of o.script) (world o h) c.node c)
    (down : (o : Opening) (h : Calls) (p n : ℕ) → IsCourse o h → WasToldDown n (calls_of p h) → is_up n (world o h) ≡ false)
  where
    stands-if_up : (o : Opening) (h : Calls) (p : ℕ) (c : Collected) → IsNew o → IsCourse o h → IsBack (cluster_of o.script) (calls_of p h) c
        → StandsIfUp (cluster_of o.script) (world o h) c
    stands-if_up o h p c new course (inl goes) = λ were up. stands o h p c new course goes were
    stands-if_up o h p c new course (inr told) = λ were up. absurd (false≢true (sym (down o h p c.node course told) ∙ up))

    -- where the history is made of the calls that were gathered
    pub all-stand : (o : Opening) (h own gathered : Calls) (cs : List Collected) (above : ℕ) → IsNew o → IsCourse o h → own ≡ [] → IsMadeOf (own ++ gathered) h
        → AreBack (cluster_of o.script) above gathered cs → AllByRecursion (StandsIfUp (cluster_of o.script) (world o h)) cs
    all-stand o h own gathered cs above new course none made back =
        let cl = cluster_of o.script in
        all-implied (λ c. (p : ℕ) × (above < p) × IsBack cl (calls_of p gathered) c) (StandsIfUp cl (world o h))
        (λ c x. (
        let same : calls_of x.0 h ≡ calls_of x.0 gathered = made x.0 ∙ ap (λ (l : Calls). calls_of x.0 (l ++ gathered)) none in
        stands-if_up o h x.0 c new course (subst (λ calls. IsBack cl calls c) (sym same) x.2)
        ))
        cs back

-- ---- by node

module _ (cl : Cluster) (h : List Event) where
  -- one row more, which stands
  pub row-more : (rows new : List Collected) (c : Collected) → AreRowsAt cl h rows → (is_up (length rows) h ≡ true → IsCollectorAt cl h (length rows) c)
      → new ≡ rows ++ c ∷ [] → AreRowsAt cl h new
  row-more rows new c at here is =
      subst (AreRowsAt cl h) (sym is) (last-too (λ m d. is_up m h ≡ true → IsCollectorAt cl h m d) rows c at here)

  pub no-rows : (rows : List Collected) → rows ≡ [] → AreRowsAt cl h rows
  no-rows rows none m c is = absurd (let here : slice_get [] m ≡ Some c = subst (λ (l : List Collected). slice_get l m ≡ Some c) none is in cc)

-- the first item is taken out
pub first-out : {X : Type 0} (P : X → Type 0) (old new : List X) (x : X) → 0 < length old → x ≡ slice_index_or old 0 x → new ≡ remove old 0 → AllByRecursion P old
    → P x × AllByRecursion P new
first-out P [] new x some value rest all = absurd (omega (arith, some))
first-out P (y ∷ ys) new x some value rest all = (subst P (sym value) all.0, subst (AllByRecursion P) (sym rest) all.1)
