mod LaterLaws
mod RetainedLaws
