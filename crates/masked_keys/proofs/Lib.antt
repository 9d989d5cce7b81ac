mod Standing
mod Looking
