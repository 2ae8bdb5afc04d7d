use Rattle.std.proofs.Common.{◌≡◌, ◌++◌, map}
use Rattle.std.specs.Slice.Iter.{iter_rest}
use Rattle.mio.specs.Events.{items}
use Rattle.shop_serve.specs.Ports.{key_of}
use Rattle.shop_serve.proofs.ports.note_keys.Given as goal

-- the keys so far, and those that are still to come
abbrev pub invariant-loop-event : goal.invariant-loop-event
invariant-loop-event l = l.keys.items ++ map key_of (iter_rest l.event-iterator) ≡ map key_of (items l.events)
