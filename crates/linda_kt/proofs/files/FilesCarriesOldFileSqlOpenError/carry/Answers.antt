use Rattle.linda_kt.proofs.files.FilesCarriesOldFileSqlOpenError.carry.Goals as goal

pub returns-in-Ok : goal.returns-in-Ok
returns-in-Ok c =
    let is = c.in-Ok.ensures in
    record {
      left = c.in-Ok.carried.tables.conn;
      same = is.same;
      version = is.version;
      holds = is.content;
      lasts = is.lasts;
      mismatch = tt;
      unchanged = tt;
      stop = tt;
    }

pub returns : goal.returns
returns c =
    let is = c.in-Err.ensures in
    record {
      left = c.in-Err.field-0-1;
      same = tt;
      version = tt;
      holds = tt;
      lasts = tt;
      mismatch = is.mismatch;
      unchanged = is.unchanged;
      stop = is.stop;
    }
