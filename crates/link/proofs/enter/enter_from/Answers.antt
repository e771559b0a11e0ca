-- A block has two successors at most, so it is a source twice at most.
use Rattle.link.proofs.Entering.{room-first, room_second, two_sources}
use Rattle.link.proofs.enter.enter_from.Goals as goal

pub put_source-next-requires : goal.put_source-next-requires
put_source-next-requires c =
    room-first c.args.succs.now c.args.counts.now c.args.j.0 c.args.k.0 c.args.used c.args.sources.now
    c.enters-first.result c.enters-second.result c.enters-first.ensures c.enters-second.ensures
    c.requires.1

pub put_source-requires : goal.put_source-requires
put_source-requires c =
    room_second c.args.succs.now c.args.counts.now c.args.j.0 c.args.k.0 c.args.used c.args.sources.now
    c.enters-first.result c.enters-second.result c.enters-first.ensures c.enters-second.ensures
    c.put_source-next.result c.put_source-next.new.sources c.requires.1 c.put_source-next.ensures.0
    c.put_source-next.auto.sources

pub returns : goal.returns
returns c =
    two_sources c.args.succs.now c.args.counts.now c.args.j.0 c.args.k.0 c.args.used c.args.sources.now
    c.enters-first.result c.enters-second.result c.enters-first.ensures c.enters-second.ensures
    c.put_source-next.result c.put_source.result c.put_source-next.new.sources c.put_source.new.sources
    c.put_source-next.ensures c.put_source.ensures
