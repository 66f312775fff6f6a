-- `put` meets its contract: the part written over is what was put.
use Rattle.std.proofs.Common.{refl, ap, ◌∙◌, length}
use Rattle.std.proofs.lemmas.List.Edits.{sets}
use Rattle.records.proofs.Stores.{put_mid-sets}
use Rattle.records.proofs.lent.Lent.put.Goals as goal

pub returns : goal.returns
returns c =
    let a = c.args.self.now in
    let same = c.put_over.ensures in
    record {
      written =
          put_mid-sets a.at (length c.args.more.now) a.bytes.now c.put_over.new.part (ap (λ bytes. length bytes) same)
          c.requires
          ∙ ap (sets a.bytes.now a.at) same;
      past = refl;
      same = refl;
    }
