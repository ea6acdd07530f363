-- `scan` meets its contract: the chain gives the places from `from` on whose bit opens, and of those the one with that number.
use mathlib.Core.Path.{refl, sym, ap, ◌∙◌}
use Prim.Native.Nat.{◌-◌}
use Rattle.std.proofs.Common.{rules, tests}
use Rattle.std.proofs.lemmas.Iterator.{YieldsList-from_range}
use Rattle.std.proofs.lemmas.Iterator.Adapters.{option_map_id}
use Rattle.std.proofs.lemmas.Iterator.Consumers.{nth_from_yields_List, YieldsList-from_filter, YieldsList-at}
use Rattle.word.specs.Bits.{bit}
use Rattle.walk.specs.Walk.{there}
use Rattle.select.proofs.Leaf.{nth_is}
use Rattle.select.proofs.scan.Goals as goal

pub returns : goal.returns
returns c = let a = c.args in
    ap there (sym (option_map_id c.nth.result)
    ∙ nth_from_yields_List c.nth.result c.nth.new.self a.number c.nth.ensures.ran (YieldsList-from_filter _ (bit a.bytes.now)
    (YieldsList-at c.filter.ensures.source (YieldsList-from_range a.from a.to (a.to - a.from) refl refl)) c.filter.ensures.closure
    (λ x r q k. search (rules, tests))))
    ∙ nth_is a.bytes.now a.from (a.to - a.from) a.number
