use Rattle.bulletin_bytes.proofs.Shown.{length-notice}
use Rattle.bulletin_bytes.proofs.NoticeBytes.put.Goals as goal

pub returns-clause-wide : goal.returns-clause-wide
returns-clause-wide c = length-notice c.args.self.now
