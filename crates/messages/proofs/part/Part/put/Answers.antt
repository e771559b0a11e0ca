-- The word stands behind what was put before (`put_behind`).
use Rattle.messages.proofs.Puts.{put_behind}
use Rattle.messages.proofs.part.Part.put.Goals as goal

pub returns-clause-value : goal.returns-clause-value
returns-clause-value c =
    let p = c.put-self-inside.ensures in
    put_behind c.self.inside.bytes _ c.args.word.now c.args.self.now c.self.inside.count _ c.self.view_is
    c.self.invariant c.self.told c.requires p.0 p.1
